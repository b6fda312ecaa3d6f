use Rattle.std.proofs.Common.{refl, sym, ◌∙◌}
use Rattle.std.specs.Prelude.{[], ◌++◌}
use Rattle.std.proofs.lemmas.Result.{err_from_is_err_and}
use Rattle.line_forms.specs.declared.forms.Form.TheVariants as forms
use Rattle.line_parts.specs.Gives.{after}
use Rattle.line_forms.specs.Slots.{parse}
use Rattle.line_forms.specs.Forms.{fit, result_is, calling, first_types, last_types, point_id, callee_type, callee_count, point_end}
use Rattle.line_forms.specs.Seen.{line_at}
use Rattle.line_parts.proofs.Stopping.{stops_whole}
use Rattle.line_forms.proofs.Segments.{pieces}
use Rattle.line_forms.proofs.groups.statepoint.Goals as goal

pub returns-in_err-result : goal.returns-in_err-result
unfolding line_at fit after
returns-in_err-result c =
    let p = err_from_is_err_and c.from_residual.result c.from_residual.ensures.1 in
    rw (p.1, p.2) (stops_whole c.in_err-result.field-0.0 (parse (result_is (calling [])) c.args.cursor.now) (line_at forms.Statepoint c.args.cursor.now)
    (λ h. rw (pieces (result_is (calling [])) (first_types ++ (last_types ++ (point_id ++ (callee_type ++ (callee_count ++ point_end))))) c.args.cursor.now, h) refl) c.in_err-result.ensures)

pub returns-in_err-first_types : goal.returns-in_err-first_types
unfolding line_at fit after
returns-in_err-first_types c =
    let p = err_from_is_err_and c.from_residual-in_err-first_types.result c.from_residual-in_err-first_types.ensures.1 in
    rw (p.1, p.2) (stops_whole c.in_err-first_types.field-0.0 (parse first_types c.called_result.new.cursor) (line_at forms.Statepoint c.args.cursor.now)
    (λ h. rw (pieces (result_is (calling [])) (first_types ++ (last_types ++ (point_id ++ (callee_type ++ (callee_count ++ point_end))))) c.args.cursor.now, c.in_ok-result.ensures, pieces first_types (last_types ++ (point_id ++ (callee_type ++ (callee_count ++ point_end)))) c.called_result.new.cursor, h) refl) c.in_err-first_types.ensures)

pub returns-in_err-last_types : goal.returns-in_err-last_types
unfolding line_at fit after
returns-in_err-last_types c =
    let p = err_from_is_err_and c.from_residual-in_err-last_types.result c.from_residual-in_err-last_types.ensures.1 in
    rw (p.1, p.2) (stops_whole c.in_err-last_types.field-0.0 (parse last_types c.first_types.new.cursor) (line_at forms.Statepoint c.args.cursor.now)
    (λ h. rw (pieces (result_is (calling [])) (first_types ++ (last_types ++ (point_id ++ (callee_type ++ (callee_count ++ point_end))))) c.args.cursor.now, c.in_ok-result.ensures, pieces first_types (last_types ++ (point_id ++ (callee_type ++ (callee_count ++ point_end)))) c.called_result.new.cursor, c.in_ok-first_types.ensures, pieces last_types (point_id ++ (callee_type ++ (callee_count ++ point_end))) c.first_types.new.cursor, h) refl) c.in_err-last_types.ensures)

pub returns-in_err-id : goal.returns-in_err-id
unfolding line_at fit after
returns-in_err-id c =
    let p = err_from_is_err_and c.from_residual-in_err-id.result c.from_residual-in_err-id.ensures.1 in
    rw (p.1, p.2) (stops_whole c.in_err-id.field-0.0 (parse point_id c.last_types.new.cursor) (line_at forms.Statepoint c.args.cursor.now)
    (λ h. rw (pieces (result_is (calling [])) (first_types ++ (last_types ++ (point_id ++ (callee_type ++ (callee_count ++ point_end))))) c.args.cursor.now, c.in_ok-result.ensures, pieces first_types (last_types ++ (point_id ++ (callee_type ++ (callee_count ++ point_end)))) c.called_result.new.cursor, c.in_ok-first_types.ensures, pieces last_types (point_id ++ (callee_type ++ (callee_count ++ point_end))) c.first_types.new.cursor, c.in_ok-last_types.ensures, pieces point_id (callee_type ++ (callee_count ++ point_end)) c.last_types.new.cursor, h) refl) c.in_err-id.ensures)

pub returns-in_err-function_type : goal.returns-in_err-function_type
unfolding line_at fit after
returns-in_err-function_type c =
    let p = err_from_is_err_and c.from_residual-in_err-function_type.result c.from_residual-in_err-function_type.ensures.1 in
    rw (p.1, p.2) (stops_whole c.in_err-function_type.field-0.0 (parse callee_type c.statepoint_id.new.cursor) (line_at forms.Statepoint c.args.cursor.now)
    (λ h. rw (pieces (result_is (calling [])) (first_types ++ (last_types ++ (point_id ++ (callee_type ++ (callee_count ++ point_end))))) c.args.cursor.now, c.in_ok-result.ensures, pieces first_types (last_types ++ (point_id ++ (callee_type ++ (callee_count ++ point_end)))) c.called_result.new.cursor, c.in_ok-first_types.ensures, pieces last_types (point_id ++ (callee_type ++ (callee_count ++ point_end))) c.first_types.new.cursor, c.in_ok-last_types.ensures, pieces point_id (callee_type ++ (callee_count ++ point_end)) c.last_types.new.cursor, c.in_ok-id.ensures, pieces callee_type (callee_count ++ point_end) c.statepoint_id.new.cursor, h) refl) c.in_err-function_type.ensures)

pub returns-in_err-callee : goal.returns-in_err-callee
unfolding line_at fit after
returns-in_err-callee c =
    let p = err_from_is_err_and c.from_residual-in_err-callee.result c.from_residual-in_err-callee.ensures.1 in
    rw (p.1, p.2) (stops_whole c.in_err-callee.field-0.0 (parse callee_count c.callee_type.new.cursor) (line_at forms.Statepoint c.args.cursor.now)
    (λ h. rw (pieces (result_is (calling [])) (first_types ++ (last_types ++ (point_id ++ (callee_type ++ (callee_count ++ point_end))))) c.args.cursor.now, c.in_ok-result.ensures, pieces first_types (last_types ++ (point_id ++ (callee_type ++ (callee_count ++ point_end)))) c.called_result.new.cursor, c.in_ok-first_types.ensures, pieces last_types (point_id ++ (callee_type ++ (callee_count ++ point_end))) c.first_types.new.cursor, c.in_ok-last_types.ensures, pieces point_id (callee_type ++ (callee_count ++ point_end)) c.last_types.new.cursor, c.in_ok-id.ensures, pieces callee_type (callee_count ++ point_end) c.statepoint_id.new.cursor, c.in_ok-function_type.ensures, pieces callee_count point_end c.callee_type.new.cursor, h) refl) c.in_err-callee.ensures)

pub returns-in_err-passed : goal.returns-in_err-passed
unfolding line_at fit after
returns-in_err-passed c =
    let p = err_from_is_err_and c.from_residual-in_err-passed.result c.from_residual-in_err-passed.ensures.1 in
    rw (p.1, p.2) (stops_whole c.in_err-passed.field-0.0 (parse point_end c.callee_count.new.cursor) (line_at forms.Statepoint c.args.cursor.now)
    (λ h. rw (pieces (result_is (calling [])) (first_types ++ (last_types ++ (point_id ++ (callee_type ++ (callee_count ++ point_end))))) c.args.cursor.now, c.in_ok-result.ensures, pieces first_types (last_types ++ (point_id ++ (callee_type ++ (callee_count ++ point_end)))) c.called_result.new.cursor, c.in_ok-first_types.ensures, pieces last_types (point_id ++ (callee_type ++ (callee_count ++ point_end))) c.first_types.new.cursor, c.in_ok-last_types.ensures, pieces point_id (callee_type ++ (callee_count ++ point_end)) c.last_types.new.cursor, c.in_ok-id.ensures, pieces callee_type (callee_count ++ point_end) c.statepoint_id.new.cursor, c.in_ok-function_type.ensures, pieces callee_count point_end c.callee_type.new.cursor, c.in_ok-callee.ensures, h) refl) c.in_err-passed.ensures)

pub returns-then-not-takes_own : goal.returns-then-not-takes_own
unfolding line_at fit after
returns-then-not-takes_own c = rw (pieces (result_is (calling [])) (first_types ++ (last_types ++ (point_id ++ (callee_type ++ (callee_count ++ point_end))))) c.args.cursor.now, c.in_ok-result.ensures, pieces first_types (last_types ++ (point_id ++ (callee_type ++ (callee_count ++ point_end)))) c.called_result.new.cursor, c.in_ok-first_types.ensures, pieces last_types (point_id ++ (callee_type ++ (callee_count ++ point_end))) c.first_types.new.cursor, c.in_ok-last_types.ensures, pieces point_id (callee_type ++ (callee_count ++ point_end)) c.last_types.new.cursor, c.in_ok-id.ensures, pieces callee_type (callee_count ++ point_end) c.statepoint_id.new.cursor, c.in_ok-function_type.ensures, pieces callee_count point_end c.callee_type.new.cursor, c.in_ok-callee.ensures, c.in_ok-passed.ensures, ← c.as_slice.ensures, ← c.as_slice-2.ensures, sym c.takes_own.ensures ∙ c.if-not-takes_own.true) refl

pub returns : goal.returns
unfolding line_at fit after
returns c = rw (pieces (result_is (calling [])) (first_types ++ (last_types ++ (point_id ++ (callee_type ++ (callee_count ++ point_end))))) c.args.cursor.now, c.in_ok-result.ensures, pieces first_types (last_types ++ (point_id ++ (callee_type ++ (callee_count ++ point_end)))) c.called_result.new.cursor, c.in_ok-first_types.ensures, pieces last_types (point_id ++ (callee_type ++ (callee_count ++ point_end))) c.first_types.new.cursor, c.in_ok-last_types.ensures, pieces point_id (callee_type ++ (callee_count ++ point_end)) c.last_types.new.cursor, c.in_ok-id.ensures, pieces callee_type (callee_count ++ point_end) c.statepoint_id.new.cursor, c.in_ok-function_type.ensures, pieces callee_count point_end c.callee_type.new.cursor, c.in_ok-callee.ensures, c.in_ok-passed.ensures, ← c.as_slice.ensures, ← c.as_slice-2.ensures, sym c.takes_own.ensures ∙ c.if-not-takes_own.false, c.as_slice.ensures, c.as_slice-2.ensures) (c.boxed.ensures c.point_end.new.cursor)
