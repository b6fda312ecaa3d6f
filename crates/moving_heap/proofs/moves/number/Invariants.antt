use Rattle.std.proofs.Common.{◌≡◌, ◌≤◌, vec_capacity}
use Rattle.std.specs.List.{range_with_len}
use Rattle.moving_heap.proofs.moves.number.Given as goal

abbrev pub invariant-loop-place : goal.invariant-loop-place
invariant-loop-place l = record {
  places : l.places.items ≡ range_with_len 0 l.place;
  capacity : vec_capacity l.initial.places ≤ vec_capacity l.places;
}
