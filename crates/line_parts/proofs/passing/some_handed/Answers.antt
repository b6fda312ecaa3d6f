use Rattle.std.proofs.Common.{sym, ◌∙◌, arith}
use Rattle.std.specs.Prelude.{codes, map, true}
use Rattle.std.proofs.lemmas.Result.{err_from_is_err_and}
use Rattle.line_parts.specs.Lists.{passed_at}
use Rattle.line_parts.specs.Groups.{begins_argument}
use Rattle.line_tokens.specs.Marks.{is_mark}
use Rattle.std.proofs.lemmas.List.{map_push}
use Rattle.line_parts.specs.Seen.{seen_passed}
use Rattle.line_parts.proofs.Dropping.{past-le}
use Rattle.line_parts.proofs.Listing.{reached_first, reached_end, reached_next, reached_stop, shorter_is, passed_at-shorter}
use Rattle.line_parts.proofs.passing.some_handed.Goals as goal

pub loop-all-init : goal.loop-all-init
loop-all-init c = rw c.new-all.ensures.items (reached_first (passed_at true) begins_argument c.args.cursor.now)

pub returns-in_err-passed : goal.returns-in_err-passed
returns-in_err-passed c =
    let p = err_from_is_err_and c.from_residual.result c.from_residual.ensures.1 in
    rw (p.1, p.2) (reached_stop (passed_at true) begins_argument c.args.cursor.now (map seen_passed c.loop-all.all.items) c.loop-all.cursor c.in_err-passed.field-0.0 c.loop-all.invariant c.in_err-passed.ensures)

pub returns-then-not-begins_argument : goal.returns-then-not-begins_argument
returns-then-not-begins_argument c =
    let lt = shorter_is _ (passed_at true c.loop-all.cursor) (seen_passed c.in_ok-passed.passed) c.passed.new.self (passed_at-shorter true c.loop-all.cursor) c.in_ok-passed.ensures in
    rw (c.in_ok-push.ensures.ok, map_push seen_passed c.loop-all.all.items c.in_ok-passed.passed) (reached_end (passed_at true) begins_argument c.args.cursor.now (map seen_passed c.loop-all.all.items) c.loop-all.cursor (seen_passed c.in_ok-passed.passed) c.passed.new.self
    c.loop-all.invariant c.in_ok-passed.ensures lt (sym c.begins_argument.ensures ∙ c.if-not-begins_argument.true))

pub loop-all-smaller : goal.loop-all-smaller
loop-all-smaller c =
    let lt = shorter_is _ (passed_at true c.loop-all.cursor) (seen_passed c.in_ok-passed.passed) c.passed.new.self (passed_at-shorter true c.loop-all.cursor) c.in_ok-passed.ensures in
    rw c.pass_comma.ensures (omega (arith, lt, past-le (is_mark (codes ",")) c.passed.new.self))

pub loop-all-preserved : goal.loop-all-preserved
loop-all-preserved c =
    let lt = shorter_is _ (passed_at true c.loop-all.cursor) (seen_passed c.in_ok-passed.passed) c.passed.new.self (passed_at-shorter true c.loop-all.cursor) c.in_ok-passed.ensures in
    rw (c.pass_comma.ensures, c.in_ok-push.ensures.ok, map_push seen_passed c.loop-all.all.items c.in_ok-passed.passed) (reached_next (passed_at true) begins_argument c.args.cursor.now (map seen_passed c.loop-all.all.items) c.loop-all.cursor (seen_passed c.in_ok-passed.passed) c.passed.new.self
    c.loop-all.invariant c.in_ok-passed.ensures lt (sym c.begins_argument.ensures ∙ c.if-not-begins_argument.false))
