use Rattle.std.proofs.Common.{◌≡◌, ◌≤◌, ◌++◌, drop, vec_capacity}
use Rattle.std.specs.Prelude.{filter}
use Rattle.moving_heap.specs.Orders.{leaves_at, targets_in}
use Rattle.moving_heap.proofs.orders.gather.Given as goal

abbrev pub invariant-loop-place : goal.invariant-loop-place
invariant-loop-place l = record {
  leavers : l.leaving.items ++ filter (leaves_at l.stands (targets_in l.targets)) (drop l.place-index l.run) ≡ l.initial.leaving.items ++ filter (leaves_at l.stands (targets_in l.targets)) l.run;
  capacity : vec_capacity l.initial.leaving ≤ vec_capacity l.leaving;
}
