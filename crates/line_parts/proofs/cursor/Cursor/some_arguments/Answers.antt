use Rattle.std.proofs.Common.{sym, ◌∙◌, arith}
use Rattle.std.specs.Prelude.{codes, map}
use Rattle.std.proofs.lemmas.Result.{err_from_is_err_and}
use Rattle.line_parts.specs.Lists.{comma, argument_at}
use Rattle.line_tokens.specs.Marks.{is_mark}
use Rattle.std.proofs.lemmas.List.{map_push}
use Rattle.line_parts.specs.Seen.{seen_argument}
use Rattle.line_parts.proofs.Dropping.{past-le}
use Rattle.line_parts.proofs.Listing.{reached_first, reached_end, reached_next, reached_stop, shorter_is, argument_at-shorter}
use Rattle.line_parts.proofs.cursor.Cursor.some_arguments.Goals as goal

pub loop-arguments-init : goal.loop-arguments-init
loop-arguments-init c = rw c.new-arguments.ensures.items (reached_first (argument_at c.args.plain) comma c.args.self.now)

pub returns-in_err-argument : goal.returns-in_err-argument
returns-in_err-argument c =
    let p = err_from_is_err_and c.from_residual.result c.from_residual.ensures.1 in
    rw (p.1, p.2) (reached_stop (argument_at c.args.plain) comma c.args.self.now (map seen_argument c.loop-arguments.arguments.items) c.loop-arguments.self c.in_err-argument.field-0.0 c.loop-arguments.invariant c.in_err-argument.ensures)

pub returns-then-not-begins_mark : goal.returns-then-not-begins_mark
returns-then-not-begins_mark c =
    let lt = shorter_is _ (argument_at c.args.plain c.loop-arguments.self) (seen_argument c.in_ok-argument.argument) c.argument.new.self (argument_at-shorter c.args.plain c.loop-arguments.self) c.in_ok-argument.ensures in
    rw (c.in_ok-push.ensures.ok, map_push seen_argument c.loop-arguments.arguments.items c.in_ok-argument.argument) (reached_end (argument_at c.args.plain) comma c.args.self.now (map seen_argument c.loop-arguments.arguments.items) c.loop-arguments.self (seen_argument c.in_ok-argument.argument) c.argument.new.self
    c.loop-arguments.invariant c.in_ok-argument.ensures lt (sym c.begins_mark.ensures ∙ c.if-not-begins_mark.true))

pub loop-arguments-smaller : goal.loop-arguments-smaller
loop-arguments-smaller c =
    let lt = shorter_is _ (argument_at c.args.plain c.loop-arguments.self) (seen_argument c.in_ok-argument.argument) c.argument.new.self (argument_at-shorter c.args.plain c.loop-arguments.self) c.in_ok-argument.ensures in
    rw c.pass_comma.ensures (omega (arith, lt, past-le (is_mark (codes ",")) c.argument.new.self))

pub loop-arguments-preserved : goal.loop-arguments-preserved
loop-arguments-preserved c =
    let lt = shorter_is _ (argument_at c.args.plain c.loop-arguments.self) (seen_argument c.in_ok-argument.argument) c.argument.new.self (argument_at-shorter c.args.plain c.loop-arguments.self) c.in_ok-argument.ensures in
    rw (c.pass_comma.ensures, c.in_ok-push.ensures.ok, map_push seen_argument c.loop-arguments.arguments.items c.in_ok-argument.argument) (reached_next (argument_at c.args.plain) comma c.args.self.now (map seen_argument c.loop-arguments.arguments.items) c.loop-arguments.self (seen_argument c.in_ok-argument.argument) c.argument.new.self
    c.loop-arguments.invariant c.in_ok-argument.ensures lt (sym c.begins_mark.ensures ∙ c.if-not-begins_mark.false))
