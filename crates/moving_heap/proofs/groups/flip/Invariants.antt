use Rattle.std.proofs.Common.{◌≡◌, ◌+◌, ◌<◌, ◌^◌, ◌++◌, take, drop, length}
use Rattle.std.specs.List.{sum_by}
use Rattle.moving_heap.specs.Places.{flipped}
use Rattle.moving_heap.specs.Orders.{targets_in}
use Rattle.moving_heap.proofs.GroupLemmas.{olds}
use Rattle.moving_heap.proofs.groups.flip.Given as goal

abbrev pub invariant-loop-place : goal.invariant-loop-place
invariant-loop-place l = record {
  same : take l.place (targets_in l.targets) ++ flipped l.at (drop l.place l.stands) (drop l.place (targets_in l.targets)) ≡ flipped l.start l.stands (targets_in l.initial.targets);
  some : 0 < l.at;
  room : l.at + sum_by (λ stand. stand.size) (drop l.place l.stands) < 2 ^ 64;
  size : length l.targets ≡ length l.stands;
  olds : olds l.targets ≡ olds l.initial.targets;
}
