use Rattle.std.proofs.Common.{refl}
use Rattle.std.specs.Prelude.{codes}
use Rattle.std.proofs.lemmas.Result.{err_from_is_err_and}
use Rattle.line_forms.specs.declared.forms.Form.TheVariants as forms
use Rattle.line_parts.specs.Gives.{after, one_at}
use Rattle.line_tokens.specs.Marks.{stands, is_global}
use Rattle.line_parts.specs.Parts.{word_at, mark_at, allowed_type_at, is_managed}
use Rattle.line_tokens.specs.Families.{relocate_name}
use Rattle.line_parts.specs.Groups.{token_at, number_at}
use Rattle.line_forms.specs.Slots.{part, parse}
use Rattle.line_forms.specs.Forms.{fit}
use Rattle.line_forms.specs.Seen.{line_at}
use Rattle.line_parts.proofs.Stopping.{stops_whole}
use Rattle.line_forms.proofs.groups.gc_relocate.Goals as goal

pub returns-in_err-word : goal.returns-in_err-word
unfolding line_at fit parse part after
returns-in_err-word c =
    let p = err_from_is_err_and c.from_residual-in_err-word.result c.from_residual-in_err-word.ensures.1 in
    rw (p.1, p.2) (stops_whole c.in_err-word.field-0.0 (word_at (codes "call") c.skip.new.self) (line_at forms.GcRelocate c.args.cursor.now)
    (λ h. rw (c.in_ok-result.ensures, c.in_ok-mark.ensures, ← c.skip.ensures, h) refl) c.in_err-word.ensures)

pub returns-in_err-managed : goal.returns-in_err-managed
unfolding line_at fit parse part after
returns-in_err-managed c =
    let p = err_from_is_err_and c.from_residual-in_err-managed.result c.from_residual-in_err-managed.ensures.1 in
    rw (p.1, p.2) (stops_whole c.in_err-managed.field-0.0 (allowed_type_at is_managed c.skip-2.new.self) (line_at forms.GcRelocate c.args.cursor.now)
    (λ h. rw (c.in_ok-result.ensures, c.in_ok-mark.ensures, ← c.skip.ensures, c.in_ok-word.ensures, ← c.skip-2.ensures, h) refl) c.in_err-managed.ensures)

pub returns-in_err-relocate_function : goal.returns-in_err-relocate_function
unfolding line_at fit parse part after
returns-in_err-relocate_function c =
    let p = err_from_is_err_and c.from_residual-in_err-relocate_function.result c.from_residual-in_err-relocate_function.ensures.1 in
    rw (p.1, p.2) (stops_whole c.in_err-relocate_function.field-0.0 (one_at (stands (is_global relocate_name)) c.managed.new.self) (line_at forms.GcRelocate c.args.cursor.now)
    (λ h. rw (c.in_ok-result.ensures, c.in_ok-mark.ensures, ← c.skip.ensures, c.in_ok-word.ensures, ← c.skip-2.ensures, c.in_ok-managed.ensures, h) refl) c.in_err-relocate_function.ensures)

pub returns-in_err-mark-2 : goal.returns-in_err-mark-2
unfolding line_at fit parse part after
returns-in_err-mark-2 c =
    let p = err_from_is_err_and c.from_residual-in_err-mark-2.result c.from_residual-in_err-mark-2.ensures.1 in
    rw (p.1, p.2) (stops_whole c.in_err-mark-2.field-0.0 (mark_at (codes "(") c.relocate_function.new.cursor) (line_at forms.GcRelocate c.args.cursor.now)
    (λ h. rw (c.in_ok-result.ensures, c.in_ok-mark.ensures, ← c.skip.ensures, c.in_ok-word.ensures, ← c.skip-2.ensures, c.in_ok-managed.ensures, c.in_ok-relocate_function.ensures, h) refl) c.in_err-mark-2.ensures)

pub returns-in_err-token : goal.returns-in_err-token
unfolding line_at fit parse part after
returns-in_err-token c =
    let p = err_from_is_err_and c.from_residual-in_err-token.result c.from_residual-in_err-token.ensures.1 in
    rw (p.1, p.2) (stops_whole c.in_err-token.field-0.0 (token_at c.mark-2.new.self) (line_at forms.GcRelocate c.args.cursor.now)
    (λ h. rw (c.in_ok-result.ensures, c.in_ok-mark.ensures, ← c.skip.ensures, c.in_ok-word.ensures, ← c.skip-2.ensures, c.in_ok-managed.ensures, c.in_ok-relocate_function.ensures, c.in_ok-mark-2.ensures, h) refl) c.in_err-token.ensures)

pub returns-in_err-mark-3 : goal.returns-in_err-mark-3
unfolding line_at fit parse part after
returns-in_err-mark-3 c =
    let p = err_from_is_err_and c.from_residual-in_err-mark-3.result c.from_residual-in_err-mark-3.ensures.1 in
    rw (p.1, p.2) (stops_whole c.in_err-mark-3.field-0.0 (mark_at (codes ",") c.token_name.new.cursor) (line_at forms.GcRelocate c.args.cursor.now)
    (λ h. rw (c.in_ok-result.ensures, c.in_ok-mark.ensures, ← c.skip.ensures, c.in_ok-word.ensures, ← c.skip-2.ensures, c.in_ok-managed.ensures, c.in_ok-relocate_function.ensures, c.in_ok-mark-2.ensures, c.in_ok-token.ensures, h) refl) c.in_err-mark-3.ensures)

pub returns-in_err-base : goal.returns-in_err-base
unfolding line_at fit parse part after
returns-in_err-base c =
    let p = err_from_is_err_and c.from_residual-in_err-base.result c.from_residual-in_err-base.ensures.1 in
    rw (p.1, p.2) (stops_whole c.in_err-base.field-0.0 (number_at (codes "i32") c.mark-3.new.self) (line_at forms.GcRelocate c.args.cursor.now)
    (λ h. rw (c.in_ok-result.ensures, c.in_ok-mark.ensures, ← c.skip.ensures, c.in_ok-word.ensures, ← c.skip-2.ensures, c.in_ok-managed.ensures, c.in_ok-relocate_function.ensures, c.in_ok-mark-2.ensures, c.in_ok-token.ensures, c.in_ok-mark-3.ensures, h) refl) c.in_err-base.ensures)

pub returns-in_err-mark-4 : goal.returns-in_err-mark-4
unfolding line_at fit parse part after
returns-in_err-mark-4 c =
    let p = err_from_is_err_and c.from_residual-in_err-mark-4.result c.from_residual-in_err-mark-4.ensures.1 in
    rw (p.1, p.2) (stops_whole c.in_err-mark-4.field-0.0 (mark_at (codes ",") c.number_of.new.cursor) (line_at forms.GcRelocate c.args.cursor.now)
    (λ h. rw (c.in_ok-result.ensures, c.in_ok-mark.ensures, ← c.skip.ensures, c.in_ok-word.ensures, ← c.skip-2.ensures, c.in_ok-managed.ensures, c.in_ok-relocate_function.ensures, c.in_ok-mark-2.ensures, c.in_ok-token.ensures, c.in_ok-mark-3.ensures, c.in_ok-base.ensures, h) refl) c.in_err-mark-4.ensures)

pub returns-in_err-derived : goal.returns-in_err-derived
unfolding line_at fit parse part after
returns-in_err-derived c =
    let p = err_from_is_err_and c.from_residual-in_err-derived.result c.from_residual-in_err-derived.ensures.1 in
    rw (p.1, p.2) (stops_whole c.in_err-derived.field-0.0 (number_at (codes "i32") c.mark-4.new.self) (line_at forms.GcRelocate c.args.cursor.now)
    (λ h. rw (c.in_ok-result.ensures, c.in_ok-mark.ensures, ← c.skip.ensures, c.in_ok-word.ensures, ← c.skip-2.ensures, c.in_ok-managed.ensures, c.in_ok-relocate_function.ensures, c.in_ok-mark-2.ensures, c.in_ok-token.ensures, c.in_ok-mark-3.ensures, c.in_ok-base.ensures, c.in_ok-mark-4.ensures, h) refl) c.in_err-derived.ensures)

pub returns-in_err-mark-5 : goal.returns-in_err-mark-5
unfolding line_at fit parse part after
returns-in_err-mark-5 c =
    let p = err_from_is_err_and c.from_residual-in_err-mark-5.result c.from_residual-in_err-mark-5.ensures.1 in
    rw (p.1, p.2) (stops_whole c.in_err-mark-5.field-0.0 (mark_at (codes ")") c.number_of-2.new.cursor) (line_at forms.GcRelocate c.args.cursor.now)
    (λ h. rw (c.in_ok-result.ensures, c.in_ok-mark.ensures, ← c.skip.ensures, c.in_ok-word.ensures, ← c.skip-2.ensures, c.in_ok-managed.ensures, c.in_ok-relocate_function.ensures, c.in_ok-mark-2.ensures, c.in_ok-token.ensures, c.in_ok-mark-3.ensures, c.in_ok-base.ensures, c.in_ok-mark-4.ensures, c.in_ok-derived.ensures, h) refl) c.in_err-mark-5.ensures)

pub returns : goal.returns
unfolding line_at fit parse part after
returns c = rw (c.in_ok-result.ensures, c.in_ok-mark.ensures, ← c.skip.ensures, c.in_ok-word.ensures, ← c.skip-2.ensures, c.in_ok-managed.ensures, c.in_ok-relocate_function.ensures, c.in_ok-mark-2.ensures, c.in_ok-token.ensures, c.in_ok-mark-3.ensures, c.in_ok-base.ensures, c.in_ok-mark-4.ensures, c.in_ok-derived.ensures, c.in_ok-mark-5.ensures, ← c.skip-3.ensures, ← c.skip-4.ensures) refl
