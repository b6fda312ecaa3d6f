use Rattle.std.proofs.Common.{ℕ, ◌-◌, ◌<◌, ◌≤◌, length, get_or}
use Rattle.moving_heap.specs.declared.cells.Counted.{Counted}
use Rattle.moving_heap.proofs.cells.first_counted.Given as goal

abbrev pub invariant-loop-low : goal.invariant-loop-low
invariant-loop-low l = record {
  within : l.low ≤ l.high;
  end : l.high ≤ length l.counts;
  below : (k : ℕ) (d : Counted) → k < l.low → (get_or l.counts k d).object < l.object;
  above : (k : ℕ) (d : Counted) → l.high ≤ k → k < length l.counts → l.object ≤ (get_or l.counts k d).object;
}

abbrev pub decreases-loop-low : goal.decreases-loop-low
decreases-loop-low l = l.high - l.low
