use Rattle.std.proofs.Common.{arith}
use Rattle.statepoint_insert.proofs.BoundLaws.{below_next, below_whole}
use Rattle.statepoint_insert.proofs.bounds.room_with.Goals as goal

pub loop-value-preserved : goal.loop-value-preserved
loop-value-preserved c = record {
  grows = omega (arith, c.above-most.ensures.grows, c.loop-value.invariant.grows);
  room = below_next c.args.list.now c.loop-value.value-index _ c.loop-value.most _ c.loop-value-test.true c.above-most.ensures.grows c.above-most.ensures.room c.loop-value.invariant.room;
}

pub returns-clause-room : goal.returns-clause-room
returns-clause-room c = below_whole c.args.list.now c.loop-value.value-index c.loop-value.most (omega (arith, c.loop-value-test.false)) c.loop-value.invariant.room
