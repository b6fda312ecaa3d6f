use Rattle.std.proofs.Common.{sym, ◌∙◌, arith}
use Rattle.std.specs.Prelude.{codes, map, true}
use Rattle.std.proofs.lemmas.Result.{err_from_is_err_and}
use Rattle.line_parts.specs.Lists.{comma, is_argument_type}
use Rattle.line_tokens.specs.Marks.{is_mark}
use Rattle.line_parts.specs.Parts.{allowed_type_at}
use Rattle.std.proofs.lemmas.List.{map_push}
use Rattle.line_parts.specs.Seen.{seen_type}
use Rattle.line_parts.proofs.Dropping.{past-le}
use Rattle.line_parts.proofs.Listing.{reached_first, reached_end, reached_next, reached_stop, shorter_is, allowed_type_at-shorter}
use Rattle.line_parts.proofs.signatures.some_parameters.Goals as goal

pub loop-parameters-init : goal.loop-parameters-init
loop-parameters-init c = rw c.new-parameters.ensures.items (reached_first (allowed_type_at (is_argument_type true)) comma c.args.cursor.now)

pub returns-in_err-parameter : goal.returns-in_err-parameter
returns-in_err-parameter c =
    let p = err_from_is_err_and c.from_residual.result c.from_residual.ensures.1 in
    rw (p.1, p.2) (reached_stop (allowed_type_at (is_argument_type true)) comma c.args.cursor.now (map seen_type c.loop-parameters.parameters.items) c.loop-parameters.cursor c.in_err-parameter.field-0.0 c.loop-parameters.invariant c.in_err-parameter.ensures)

pub returns-then-not-begins_mark : goal.returns-then-not-begins_mark
returns-then-not-begins_mark c =
    let lt = shorter_is _ (allowed_type_at (is_argument_type true) c.loop-parameters.cursor) (seen_type c.in_ok-parameter.parameter) c.argument_type.new.self (allowed_type_at-shorter (is_argument_type true) c.loop-parameters.cursor) c.in_ok-parameter.ensures in
    rw (c.in_ok-push.ensures.ok, map_push seen_type c.loop-parameters.parameters.items c.in_ok-parameter.parameter) (reached_end (allowed_type_at (is_argument_type true)) comma c.args.cursor.now (map seen_type c.loop-parameters.parameters.items) c.loop-parameters.cursor (seen_type c.in_ok-parameter.parameter) c.argument_type.new.self
    c.loop-parameters.invariant c.in_ok-parameter.ensures lt (sym c.begins_mark.ensures ∙ c.if-not-begins_mark.true))

pub loop-parameters-smaller : goal.loop-parameters-smaller
loop-parameters-smaller c =
    let lt = shorter_is _ (allowed_type_at (is_argument_type true) c.loop-parameters.cursor) (seen_type c.in_ok-parameter.parameter) c.argument_type.new.self (allowed_type_at-shorter (is_argument_type true) c.loop-parameters.cursor) c.in_ok-parameter.ensures in
    rw c.pass_comma.ensures (omega (arith, lt, past-le (is_mark (codes ",")) c.argument_type.new.self))

pub loop-parameters-preserved : goal.loop-parameters-preserved
loop-parameters-preserved c =
    let lt = shorter_is _ (allowed_type_at (is_argument_type true) c.loop-parameters.cursor) (seen_type c.in_ok-parameter.parameter) c.argument_type.new.self (allowed_type_at-shorter (is_argument_type true) c.loop-parameters.cursor) c.in_ok-parameter.ensures in
    rw (c.pass_comma.ensures, c.in_ok-push.ensures.ok, map_push seen_type c.loop-parameters.parameters.items c.in_ok-parameter.parameter) (reached_next (allowed_type_at (is_argument_type true)) comma c.args.cursor.now (map seen_type c.loop-parameters.parameters.items) c.loop-parameters.cursor (seen_type c.in_ok-parameter.parameter) c.argument_type.new.self
    c.loop-parameters.invariant c.in_ok-parameter.ensures lt (sym c.begins_mark.ensures ∙ c.if-not-begins_mark.false))
