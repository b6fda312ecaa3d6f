use Rattle.std.proofs.Common.{refl}
use Rattle.std.specs.Prelude.{codes}
use Rattle.std.proofs.lemmas.Result.{err_from_is_err_and}
use Rattle.line_forms.specs.declared.forms.Form.TheVariants as forms
use Rattle.line_parts.specs.Gives.{after}
use Rattle.line_parts.specs.Parts.{word_at, mark_at}
use Rattle.line_parts.specs.Groups.{result_at, token_at}
use Rattle.line_forms.specs.Slots.{part, parse}
use Rattle.line_forms.specs.Forms.{fit}
use Rattle.line_forms.specs.Seen.{line_at}
use Rattle.line_parts.proofs.Stopping.{stops_whole}
use Rattle.line_forms.proofs.groups.gc_result.Goals as goal

pub returns-in_err-word : goal.returns-in_err-word
unfolding line_at fit parse part after
returns-in_err-word c =
    let p = err_from_is_err_and c.from_residual-in_err-word.result c.from_residual-in_err-word.ensures.1 in
    rw (p.1, p.2) (stops_whole c.in_err-word.field-0.0 (word_at (codes "call") c.skip.new.self) (line_at forms.GcResult c.args.cursor.now)
    (λ h. rw (c.in_ok-result.ensures, c.in_ok-mark.ensures, ← c.skip.ensures, h) refl) c.in_err-word.ensures)

pub returns-in_err-answer : goal.returns-in_err-answer
unfolding line_at fit parse part after
returns-in_err-answer c =
    let p = err_from_is_err_and c.from_residual-in_err-answer.result c.from_residual-in_err-answer.ensures.1 in
    rw (p.1, p.2) (stops_whole c.in_err-answer.field-0.0 (result_at c.skip-2.new.self) (line_at forms.GcResult c.args.cursor.now)
    (λ h. rw (c.in_ok-result.ensures, c.in_ok-mark.ensures, ← c.skip.ensures, c.in_ok-word.ensures, ← c.skip-2.ensures, h) refl) c.in_err-answer.ensures)

pub returns-in_err-mark-2 : goal.returns-in_err-mark-2
unfolding line_at fit parse part after
returns-in_err-mark-2 c =
    let p = err_from_is_err_and c.from_residual-in_err-mark-2.result c.from_residual-in_err-mark-2.ensures.1 in
    rw (p.1, p.2) (stops_whole c.in_err-mark-2.field-0.0 (mark_at (codes "(") c.result_type.new.cursor) (line_at forms.GcResult c.args.cursor.now)
    (λ h. rw (c.in_ok-result.ensures, c.in_ok-mark.ensures, ← c.skip.ensures, c.in_ok-word.ensures, ← c.skip-2.ensures, c.in_ok-answer.ensures, h) refl) c.in_err-mark-2.ensures)

pub returns-in_err-token : goal.returns-in_err-token
unfolding line_at fit parse part after
returns-in_err-token c =
    let p = err_from_is_err_and c.from_residual-in_err-token.result c.from_residual-in_err-token.ensures.1 in
    rw (p.1, p.2) (stops_whole c.in_err-token.field-0.0 (token_at c.mark-2.new.self) (line_at forms.GcResult c.args.cursor.now)
    (λ h. rw (c.in_ok-result.ensures, c.in_ok-mark.ensures, ← c.skip.ensures, c.in_ok-word.ensures, ← c.skip-2.ensures, c.in_ok-answer.ensures, c.in_ok-mark-2.ensures, h) refl) c.in_err-token.ensures)

pub returns-in_err-mark-3 : goal.returns-in_err-mark-3
unfolding line_at fit parse part after
returns-in_err-mark-3 c =
    let p = err_from_is_err_and c.from_residual-in_err-mark-3.result c.from_residual-in_err-mark-3.ensures.1 in
    rw (p.1, p.2) (stops_whole c.in_err-mark-3.field-0.0 (mark_at (codes ")") c.token_name.new.cursor) (line_at forms.GcResult c.args.cursor.now)
    (λ h. rw (c.in_ok-result.ensures, c.in_ok-mark.ensures, ← c.skip.ensures, c.in_ok-word.ensures, ← c.skip-2.ensures, c.in_ok-answer.ensures, c.in_ok-mark-2.ensures, c.in_ok-token.ensures, h) refl) c.in_err-mark-3.ensures)

pub returns : goal.returns
unfolding line_at fit parse part after
returns c = rw (c.in_ok-result.ensures, c.in_ok-mark.ensures, ← c.skip.ensures, c.in_ok-word.ensures, ← c.skip-2.ensures, c.in_ok-answer.ensures, c.in_ok-mark-2.ensures, c.in_ok-token.ensures, c.in_ok-mark-3.ensures, ← c.skip-3.ensures, ← c.skip-4.ensures) refl
