use Rattle.std.proofs.Common.{ℕ, ◌-◌, ◌<◌, ◌≤◌, length, get_or}
use Rattle.moving_heap.specs.declared.stands.Stand.{Stand}
use Rattle.moving_heap.specs.Orders.{row}
use Rattle.moving_heap.proofs.orders.count_to.Given as goal

abbrev pub invariant-loop-low : goal.invariant-loop-low
invariant-loop-low l = record {
  within : l.low ≤ l.high;
  end : l.high ≤ length l.order;
  below : (k : ℕ) (d : Stand) → k < l.low → (get_or (row l.stands l.order) k d).address ≤ l.word;
  above : (k : ℕ) (d : Stand) → l.high ≤ k → k < length (row l.stands l.order) → l.word < (get_or (row l.stands l.order) k d).address;
}

abbrev pub decreases-loop-low : goal.decreases-loop-low
decreases-loop-low l = l.high - l.low
