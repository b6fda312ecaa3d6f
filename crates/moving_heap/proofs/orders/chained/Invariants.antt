use Rattle.std.proofs.Common.{◌≡◌, ◌-◌, ◌<◌, get_or}
use Rattle.moving_heap.specs.declared.stands.Stand.{Stand}
use Rattle.moving_heap.specs.Orders.{then_row, targets_in, nowhere}
use Rattle.moving_heap.proofs.ApartLemmas.{AreChained}
use Rattle.moving_heap.proofs.orders.chained.Given as goal

abbrev pub invariant-loop-place : goal.invariant-loop-place
invariant-loop-place l = record {
  chained : AreChained (then_row l.stands (targets_in l.targets) l.order) l.place-index;
  first : l.place-index ≡ 0 → l.before ≡ nowhere;
  last : (d : Stand) → 0 < l.place-index → get_or (then_row l.stands (targets_in l.targets) l.order) (l.place-index - 1) d ≡ l.before;
}
