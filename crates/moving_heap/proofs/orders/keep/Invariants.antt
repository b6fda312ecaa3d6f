use Rattle.std.proofs.Common.{◌≡◌, ◌≤◌, ◌++◌, drop, vec_capacity}
use Rattle.std.specs.Prelude.{filter}
use Rattle.moving_heap.specs.Orders.{stays_at, targets_in}
use Rattle.moving_heap.proofs.orders.keep.Given as goal

abbrev pub invariant-loop-place : goal.invariant-loop-place
invariant-loop-place l = record {
  stayers : l.next.items ++ filter (stays_at l.stands (targets_in l.targets)) (drop l.place-index l.run) ≡ l.initial.next.items ++ filter (stays_at l.stands (targets_in l.targets)) l.run;
  capacity : vec_capacity l.initial.next ≤ vec_capacity l.next;
}
