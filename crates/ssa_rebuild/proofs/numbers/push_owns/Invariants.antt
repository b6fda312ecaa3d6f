use Rattle.std.proofs.Common.{◌≡◌, ◌≤◌, ◌+◌, ◌++◌, drop}
use Rattle.version_walk.specs.Slots.{next_behind}
use Rattle.ssa_rebuild.specs.Rows.{owns}
use Rattle.ssa_rebuild.proofs.numbers.push_owns.Given as goal

abbrev pub invariant-loop-slot : goal.invariant-loop-slot
invariant-loop-slot l = record {
  own : l.initial.own.items ++ owns l.first l.row ≡ l.own.items ++ owns l.next (drop l.slot-index l.row);
  next : next_behind l.first l.row ≡ next_behind l.next (drop l.slot-index l.row);
  small : l.next ≤ l.first + l.slot-index;
}
