use Rattle.std.proofs.Common.{◌≡◌, ◌++◌, map, take}
use Rattle.version_walk.specs.Walks.{awaiting}
use Rattle.version_walk.proofs.walk.await_all.Given as goal

abbrev pub invariant-loop-block : goal.invariant-loop-block
invariant-loop-block l = l.pending.items ≡ l.initial.pending.items ++ map (awaiting l.depth) (take l.block-index l.blocks)
