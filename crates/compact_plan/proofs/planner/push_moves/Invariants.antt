use Rattle.std.proofs.Common.{◌≡◌, ◌+◌, ◌≤◌, ◌++◌, drop}
use Rattle.std.specs.List.{sum_by}
use Rattle.compact_plan.specs.Compacting.{packed, packing}
use Rattle.compact_plan.proofs.planner.push_moves.Given as goal

abbrev pub invariant-loop-index : goal.invariant-loop-index
invariant-loop-index l = record {
  pushed : l.lines.items ++ packed l.event (l.index + 1) l.to (drop l.index l.made) ≡ l.initial.lines.items ++ packing l.made l.event;
  room : l.to + sum_by (λ one. one.footprint) (drop l.index l.made) ≤ 1099578736640;
}
