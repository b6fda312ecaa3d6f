use Rattle.std.proofs.Common.{refl}
use Rattle.std.specs.Prelude.{codes}
use Rattle.std.proofs.lemmas.Result.{err_from_is_err_and}
use Rattle.line_forms.specs.declared.forms.Form.TheVariants as forms
use Rattle.line_parts.specs.Gives.{after}
use Rattle.line_parts.specs.Parts.{word_at}
use Rattle.line_parts.specs.Lists.{called_at}
use Rattle.line_parts.specs.Bundles.{deopt_at}
use Rattle.line_forms.specs.Slots.{part, parse}
use Rattle.line_forms.specs.Forms.{fit}
use Rattle.line_forms.specs.Seen.{line_at}
use Rattle.line_parts.proofs.Stopping.{stops_whole}
use Rattle.line_forms.proofs.accesses.void_call.Goals as goal

pub returns-in_err-word-2 : goal.returns-in_err-word-2
unfolding line_at fit parse part after
returns-in_err-word-2 c =
    let p = err_from_is_err_and c.from_residual-in_err-word-2.result c.from_residual-in_err-word-2.ensures.1 in
    rw (p.1, p.2) (stops_whole c.in_err-word-2.field-0.0 (word_at (codes "void") c.skip-2.new.self) (line_at forms.VoidCall c.args.cursor.now)
    (λ h. rw (← c.skip.ensures, c.in_ok-word.ensures, ← c.skip-2.ensures, h) refl) c.in_err-word-2.ensures)

pub returns-in_err-callee : goal.returns-in_err-callee
unfolding line_at fit parse part after
returns-in_err-callee c =
    let p = err_from_is_err_and c.from_residual-in_err-callee.result c.from_residual-in_err-callee.ensures.1 in
    rw (p.1, p.2) (stops_whole c.in_err-callee.field-0.0 (called_at c.word-2.new.self) (line_at forms.VoidCall c.args.cursor.now)
    (λ h. rw (← c.skip.ensures, c.in_ok-word.ensures, ← c.skip-2.ensures, c.in_ok-word-2.ensures, h) refl) c.in_err-callee.ensures)

pub returns-in_err-kept : goal.returns-in_err-kept
unfolding line_at fit parse part after
returns-in_err-kept c =
    let p = err_from_is_err_and c.from_residual-in_err-kept.result c.from_residual-in_err-kept.ensures.1 in
    rw (p.1, p.2) (stops_whole c.in_err-kept.field-0.0 (deopt_at c.skip-3.new.self) (line_at forms.VoidCall c.args.cursor.now)
    (λ h. rw (← c.skip.ensures, c.in_ok-word.ensures, ← c.skip-2.ensures, c.in_ok-word-2.ensures, c.in_ok-callee.ensures, ← c.skip-3.ensures, h) refl) c.in_err-kept.ensures)

pub returns : goal.returns
unfolding line_at fit parse part after
returns c = rw (← c.skip.ensures, c.in_ok-word.ensures, ← c.skip-2.ensures, c.in_ok-word-2.ensures, c.in_ok-callee.ensures, ← c.skip-3.ensures, c.in_ok-kept.ensures, ← c.skip-4.ensures) refl
