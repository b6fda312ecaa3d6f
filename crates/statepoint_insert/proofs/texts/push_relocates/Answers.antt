use Rattle.std.proofs.Common.{arith}
use Rattle.statepoint_insert.specs.Texts.{first_rank}
use Rattle.statepoint_insert.proofs.LineLaws.{line_added}
use Rattle.statepoint_insert.proofs.texts.push_relocates.Goals as goal

pub loop-relocate-preserved : goal.loop-relocate-preserved
loop-relocate-preserved c = record {
  count = omega (arith, c.loop-relocate.invariant.count);
  rank = omega (arith, c.loop-relocate.invariant.rank);
  lines = line_added c.args.token c.args.first (first_rank c.args.group.now.has_null) c.loop-relocate.relocate-index c.loop-relocate.count c.loop-relocate.rank _
      c.args.group.now.relocates c.relocates-relocate-items.result.now c.args.lines.now.items c.loop-relocate.lines.items c.push.new.self.items c.in_ok-relocate_line.field-0
      c.relocates-relocate-items.ensures c.loop-relocate-test.true c.loop-relocate.invariant.count c.loop-relocate.invariant.rank c.in_ok-relocate_line.ensures
      c.in_ok-push.ensures.items c.loop-relocate.invariant.lines;
}
