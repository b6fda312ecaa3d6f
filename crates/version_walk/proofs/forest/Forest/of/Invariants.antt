use Rattle.std.proofs.Common.{◌≡◌, length, take}
use Rattle.version_walk.specs.Forest.{IsForest}
use Rattle.version_walk.proofs.forest.Forest.of.Given as goal

abbrev pub invariant-loop-block : goal.invariant-loop-block
invariant-loop-block l = record {
  whole : length l.forest.children.items ≡ length l.parents;
  forest : IsForest (take l.block l.parents) l.forest;
}
