use Rattle.std.proofs.Common.{refl}
use Rattle.std.specs.Prelude.{codes}
use Rattle.std.proofs.lemmas.Result.{err_from_is_err_and}
use Rattle.line_forms.specs.declared.forms.Form.TheVariants as forms
use Rattle.line_parts.specs.Gives.{after}
use Rattle.line_parts.specs.Parts.{mark_at}
use Rattle.line_forms.specs.Slots.{part, parse}
use Rattle.line_forms.specs.Forms.{fit}
use Rattle.line_forms.specs.Seen.{line_at}
use Rattle.line_parts.proofs.Stopping.{stops_whole}
use Rattle.line_forms.proofs.heads.define.Goals as goal

pub returns-in_err-mark : goal.returns-in_err-mark
unfolding line_at fit parse part after
returns-in_err-mark c =
    let p = err_from_is_err_and c.from_residual-in_err-mark.result c.from_residual-in_err-mark.ensures.1 in
    rw (p.1, p.2) (stops_whole c.in_err-mark.field-0.0 (mark_at (codes "{") c.skip-3.new.self) (line_at forms.Define c.args.cursor.now)
    (λ h. rw (c.in_ok-word.ensures, ← c.skip.ensures, c.in_ok-answer.ensures, c.in_ok-name.ensures, ← c.skip-2.ensures, c.in_ok-strategy.ensures, ← c.skip-3.ensures, h) refl) c.in_err-mark.ensures)

pub returns : goal.returns
unfolding line_at fit parse part after
returns c = rw (c.in_ok-word.ensures, ← c.skip.ensures, c.in_ok-answer.ensures, c.in_ok-name.ensures, ← c.skip-2.ensures, c.in_ok-strategy.ensures, ← c.skip-3.ensures, c.in_ok-mark.ensures) refl
