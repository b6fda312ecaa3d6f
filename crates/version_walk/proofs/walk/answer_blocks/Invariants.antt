use Rattle.std.proofs.Common.{◌+◌, length}
use Rattle.version_walk.specs.Walks.{HasRoom, IsSized, IsWalk, weight}
use Rattle.version_walk.proofs.walk.answer_blocks.Given as goal

abbrev pub invariant-loop-walk : goal.invariant-loop-walk
invariant-loop-walk l = record {
  room : HasRoom l.starts l.walk.rows.items;
  sized : IsSized l.forest.children.items l.walk;
  walk : IsWalk l.parents (record { starts = l.starts; own = l.fn.own.items; rows = l.fn.rows.items }) l.walk.pending.items l.walk.versions.current.items l.walk.versions.log.items
      l.walk.rows.items l.walk.done.items;
}

abbrev pub decreases-loop-walk : goal.decreases-loop-walk
decreases-loop-walk l = weight l.walk.done.items l.forest.children.items + length l.walk.pending.items
