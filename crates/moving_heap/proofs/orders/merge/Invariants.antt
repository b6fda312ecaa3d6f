use Rattle.std.proofs.Common.{◌≤◌, ◌+◌, ◌-◌, length, vec_capacity}
use Rattle.moving_heap.specs.Orders.{row, then_row, targets_in}
use Rattle.moving_heap.proofs.OrderLemmas.{AreMerged}
use Rattle.moving_heap.proofs.orders.merge.Given as goal

abbrev pub invariant-loop-place : goal.invariant-loop-place
invariant-loop-place l = record {
  merged : AreMerged (targets_in l.targets) (row l.stands l.run) (then_row l.stands (targets_in l.targets) l.leaving) l.place l.taken (then_row l.stands (targets_in l.targets) l.next.items);
  within : l.taken ≤ length l.leaving;
  capacity : vec_capacity l.initial.next ≤ vec_capacity l.next;
}

abbrev pub decreases-loop-place : goal.decreases-loop-place
decreases-loop-place l = (length l.run - l.place) + (length l.leaving - l.taken)

abbrev pub invariant-loop-taken : goal.invariant-loop-taken
invariant-loop-taken l = record {
  merged : AreMerged (targets_in l.targets) (row l.stands l.run) (then_row l.stands (targets_in l.targets) l.leaving) l.place l.taken (then_row l.stands (targets_in l.targets) l.next.items);
  within : l.taken ≤ length l.leaving;
  capacity : vec_capacity l.initial.next ≤ vec_capacity l.next;
}

abbrev pub decreases-loop-taken : goal.decreases-loop-taken
decreases-loop-taken l = length l.leaving - l.taken
