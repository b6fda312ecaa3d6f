use Rattle.std.proofs.Common.{◌≡◌, map, take}
use Rattle.statepoint_insert.specs.Ranks.{relocate_by}
use Rattle.statepoint_insert.proofs.indices.relocates.Given as goal

abbrev pub invariant-loop-value : goal.invariant-loop-value
invariant-loop-value l = l.relocates.items ≡ map (relocate_by l.bases l.row) (take l.value-index l.list)
