use Rattle.std.proofs.Common.{refl}
use Rattle.std.specs.Prelude.{[], codes}
use Rattle.std.proofs.lemmas.Result.{err_from_is_err_and}
use Rattle.line_parts.specs.Gives.{after}
use Rattle.line_parts.specs.Parts.{word_at, mark_at, allowed_type_at, is_answer_type}
use Rattle.line_parts.specs.Groups.{types_at}
use Rattle.line_forms.specs.Forms.{callee_type}
use Rattle.line_forms.specs.Slots.{part, parse}
use Rattle.line_parts.proofs.Stopping.{stops_whole}
use Rattle.line_forms.proofs.groups.callee_type.Goals as goal

pub returns-in_err-word-2 : goal.returns-in_err-word-2
unfolding parse part after
returns-in_err-word-2 c =
    let p = err_from_is_err_and c.from_residual-in_err-word-2.result c.from_residual-in_err-word-2.ensures.1 in
    rw (p.1, p.2) (stops_whole c.in_err-word-2.field-0.0 (word_at (codes "elementtype") c.skip.new.self) (parse callee_type c.args.cursor.now)
    (λ h. rw (c.in_ok-word.ensures, ← c.skip.ensures, h) refl) c.in_err-word-2.ensures)

pub returns-in_err-mark : goal.returns-in_err-mark
unfolding parse part after
returns-in_err-mark c =
    let p = err_from_is_err_and c.from_residual-in_err-mark.result c.from_residual-in_err-mark.ensures.1 in
    rw (p.1, p.2) (stops_whole c.in_err-mark.field-0.0 (mark_at (codes "(") c.word-2.new.self) (parse callee_type c.args.cursor.now)
    (λ h. rw (c.in_ok-word.ensures, ← c.skip.ensures, c.in_ok-word-2.ensures, h) refl) c.in_err-mark.ensures)

pub returns-in_err-answer : goal.returns-in_err-answer
unfolding parse part after
returns-in_err-answer c =
    let p = err_from_is_err_and c.from_residual-in_err-answer.result c.from_residual-in_err-answer.ensures.1 in
    rw (p.1, p.2) (stops_whole c.in_err-answer.field-0.0 (allowed_type_at is_answer_type c.mark.new.self) (parse callee_type c.args.cursor.now)
    (λ h. rw (c.in_ok-word.ensures, ← c.skip.ensures, c.in_ok-word-2.ensures, c.in_ok-mark.ensures, h) refl) c.in_err-answer.ensures)

pub returns-in_err-mark-2 : goal.returns-in_err-mark-2
unfolding parse part after
returns-in_err-mark-2 c =
    let p = err_from_is_err_and c.from_residual-in_err-mark-2.result c.from_residual-in_err-mark-2.ensures.1 in
    rw (p.1, p.2) (stops_whole c.in_err-mark-2.field-0.0 (mark_at (codes "(") c.answer_type.new.self) (parse callee_type c.args.cursor.now)
    (λ h. rw (c.in_ok-word.ensures, ← c.skip.ensures, c.in_ok-word-2.ensures, c.in_ok-mark.ensures, c.in_ok-answer.ensures, h) refl) c.in_err-mark-2.ensures)

pub returns-in_err-parameters : goal.returns-in_err-parameters
unfolding parse part after
returns-in_err-parameters c =
    let p = err_from_is_err_and c.from_residual-in_err-parameters.result c.from_residual-in_err-parameters.ensures.1 in
    rw (p.1, p.2) (stops_whole c.in_err-parameters.field-0.0 (types_at c.mark-2.new.self) (parse callee_type c.args.cursor.now)
    (λ h. rw (c.in_ok-word.ensures, ← c.skip.ensures, c.in_ok-word-2.ensures, c.in_ok-mark.ensures, c.in_ok-answer.ensures, c.in_ok-mark-2.ensures, h) refl) c.in_err-parameters.ensures)

pub returns-in_err-mark-3 : goal.returns-in_err-mark-3
unfolding parse part after
returns-in_err-mark-3 c =
    let p = err_from_is_err_and c.from_residual-in_err-mark-3.result c.from_residual-in_err-mark-3.ensures.1 in
    rw (p.1, p.2) (stops_whole c.in_err-mark-3.field-0.0 (mark_at (codes ")") c.parameters.new.cursor) (parse callee_type c.args.cursor.now)
    (λ h. rw (c.in_ok-word.ensures, ← c.skip.ensures, c.in_ok-word-2.ensures, c.in_ok-mark.ensures, c.in_ok-answer.ensures, c.in_ok-mark-2.ensures, c.in_ok-parameters.ensures, h) refl) c.in_err-mark-3.ensures)

pub returns-in_err-mark-4 : goal.returns-in_err-mark-4
unfolding parse part after
returns-in_err-mark-4 c =
    let p = err_from_is_err_and c.from_residual-in_err-mark-4.result c.from_residual-in_err-mark-4.ensures.1 in
    rw (p.1, p.2) (stops_whole c.in_err-mark-4.field-0.0 (mark_at (codes ")") c.mark-3.new.self) (parse callee_type c.args.cursor.now)
    (λ h. rw (c.in_ok-word.ensures, ← c.skip.ensures, c.in_ok-word-2.ensures, c.in_ok-mark.ensures, c.in_ok-answer.ensures, c.in_ok-mark-2.ensures, c.in_ok-parameters.ensures, c.in_ok-mark-3.ensures, h) refl) c.in_err-mark-4.ensures)

pub returns : goal.returns
unfolding parse part after
returns c = rw (c.in_ok-word.ensures, ← c.skip.ensures, c.in_ok-word-2.ensures, c.in_ok-mark.ensures, c.in_ok-answer.ensures, c.in_ok-mark-2.ensures, c.in_ok-parameters.ensures, c.in_ok-mark-3.ensures, c.in_ok-mark-4.ensures) refl
