use Rattle.std.proofs.Common.{◌≡◌, ◌≤◌, ◌+◌, length, drop}
use Rattle.statepoint_insert.specs.Ranks.{HasRanks}
use Rattle.statepoint_insert.proofs.indices.set_ranks.Given as goal

abbrev pub invariant-loop-place : goal.invariant-loop-place
invariant-loop-place l = record {
  within : l.place ≤ length l.list;
  whole : length l.row.items ≡ length l.initial.row.items;
  ranks : HasRanks (l.first + l.place) (drop l.place l.list) l.row.items;
}

abbrev pub decreases-loop-place : goal.decreases-loop-place
decreases-loop-place l = l.place
