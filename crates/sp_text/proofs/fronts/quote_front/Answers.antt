use Rattle.std.proofs.Common.{◌∙◌, sym, add_comm}
use Rattle.sp_text.proofs.FrontLemmas.{quote-first, quote-none, position-tells, is_quote}
use Rattle.sp_text.proofs.fronts.quote_front.Goals as goal

pub returns : goal.returns
returns c =
    let told = position-tells is_quote c.args.bytes.now _ (sym c.in_ok-len.was ∙ c.find.ensures) in
    rw (add_comm, told.0) (quote-first _ (rw (← told.0) told.1))

pub returns-in_err-len : goal.returns-in_err-len
returns-in_err-len c =
    rw c.from_residual.ensures
    (quote-none _ (position-tells is_quote c.args.bytes.now _ (sym c.in_err-len.was ∙ c.find.ensures)))
