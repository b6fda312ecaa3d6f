use Rattle.std.proofs.Common.{ℕ, ◌-◌, ◌<◌, ◌≤◌, length, map, get_or}
use Rattle.moving_heap.specs.declared.stands.Moved.{Moved}
use Rattle.moving_heap.specs.Settled.{move_at}
use Rattle.moving_heap.proofs.moves.first_from.Given as goal

abbrev pub invariant-loop-low : goal.invariant-loop-low
invariant-loop-low l = record {
  within : l.low ≤ l.high;
  end : l.high ≤ length l.sorted;
  below : (k : ℕ) (d : Moved) → k < l.low → (get_or (map (move_at l.moves) l.sorted) k d).old < l.old;
  above : (k : ℕ) (d : Moved) → l.high ≤ k → k < length (map (move_at l.moves) l.sorted) → l.old ≤ (get_or (map (move_at l.moves) l.sorted) k d).old;
}

abbrev pub decreases-loop-low : goal.decreases-loop-low
decreases-loop-low l = l.high - l.low
