use Rattle.std.proofs.Common.{◌∙◌, sym}
use Rattle.sp_text.proofs.FrontLemmas.{position-tells}
use Rattle.sp_text.proofs.LineLemmas.{is_newline, lines-first, lines-last}
use Rattle.sp_text.proofs.lines.first_line.Goals as goal

pub returns-in-Some-clause-first : goal.returns-in-Some-clause-first
returns-in-Some-clause-first c =
    let at = position-tells is_newline c.args.text.now _ (sym c.in-Some.is ∙ c.find.ensures) in
    rw (c.without_carriage_return.ensures, at.0) (lines-first c.args.text.now (rw at.0 at at.1))

pub returns-in-None-clause-first : goal.returns-in-None-clause-first
returns-in-None-clause-first c =
    lines-last _ c.requires (position-tells is_newline c.args.text.now _ (sym c.in-None.is ∙ c.find.ensures))
