use Rattle.std.proofs.Common.{refl}
use Rattle.std.specs.Prelude.{[], codes}
use Rattle.std.proofs.lemmas.Result.{err_from_is_err_and}
use Rattle.line_parts.specs.Gives.{after}
use Rattle.line_parts.specs.Parts.{word_at}
use Rattle.line_forms.specs.Forms.{result_is, calling}
use Rattle.line_forms.specs.Slots.{part, parse}
use Rattle.line_parts.proofs.Stopping.{stops_whole}
use Rattle.line_forms.proofs.groups.called_result.Goals as goal

pub returns-in_err-word : goal.returns-in_err-word
unfolding parse part after
returns-in_err-word c =
    let p = err_from_is_err_and c.from_residual-in_err-word.result c.from_residual-in_err-word.ensures.1 in
    rw (p.1, p.2) (stops_whole c.in_err-word.field-0.0 (word_at (codes "call") c.skip.new.self) (parse (result_is (calling [])) c.args.cursor.now)
    (λ h. rw (c.in_ok-result.ensures, c.in_ok-mark.ensures, ← c.skip.ensures, h) refl) c.in_err-word.ensures)

pub returns : goal.returns
unfolding parse part after
returns c = rw (c.in_ok-result.ensures, c.in_ok-mark.ensures, ← c.skip.ensures, c.in_ok-word.ensures, ← c.skip-2.ensures) refl
