use Rattle.std.proofs.Common.{◌∙◌, not, sym, ap}
use Rattle.ir_printer.proofs.DeclarationLemmas.{has_top-empty, has_top-some}
use Rattle.ir_printer.proofs.declarations.stands_above.Goals as goal

pub returns-then-not-is_empty : goal.returns-then-not-is_empty
returns-then-not-is_empty c =
    ap not c.if-not-is_empty.true
    ∙ sym (has_top-some c.args.layouts.now c.args.called.now (sym c.if-not-is_empty.true ∙ c.is_empty.ensures))

pub returns-else-not-is_empty : goal.returns-else-not-is_empty
returns-else-not-is_empty c =
    c.declares_some.ensures
    ∙ sym (has_top-empty c.args.layouts.now c.args.called.now (sym c.if-not-is_empty.false ∙ c.is_empty.ensures))
