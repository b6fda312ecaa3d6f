use Rattle.std.proofs.Common.{◌≡◌, ◌≤◌, take, map, vec_capacity}
use Rattle.moving_heap.specs.Orders.{resting}
use Rattle.moving_heap.proofs.moves.rest.Given as goal

abbrev pub invariant-loop-place : goal.invariant-loop-place
invariant-loop-place l = record {
  moves : l.list.items ≡ map resting (take l.place l.stands);
  capacity : vec_capacity l.initial.list ≤ vec_capacity l.list;
}
