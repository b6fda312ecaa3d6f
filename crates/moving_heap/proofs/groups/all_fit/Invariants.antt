use Rattle.std.proofs.Common.{◌≡◌, drop}
use Rattle.moving_heap.specs.Places.{all_fit}
use Rattle.moving_heap.specs.Orders.{targets_in}
use Rattle.moving_heap.proofs.groups.all_fit.Given as goal

abbrev pub invariant-loop-place : goal.invariant-loop-place
invariant-loop-place l = all_fit (drop l.place l.stands) (drop l.place (targets_in l.targets)) ≡ all_fit l.stands (targets_in l.targets)
