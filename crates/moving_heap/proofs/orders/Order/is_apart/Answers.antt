use Rattle.std.proofs.Common.{◌&&◌, ◌<◌, ap, sym, ◌∙◌}
use Rattle.moving_heap.specs.declared.stands.Stand.{Stand}
use Rattle.moving_heap.specs.Places.{apart}
use Rattle.moving_heap.specs.Orders.{then_row, targets_in}
use Rattle.moving_heap.proofs.OrderLemmas.{sorted_left, sorted_right, all_left, all_right, apart_parts}
use Rattle.moving_heap.proofs.orders.Order.is_apart.Goals as goal

pub chained-requires-clause-sorted : goal.chained-requires-clause-sorted
chained-requires-clause-sorted c =
    rw c.parts.ensures.low
    (sorted_left (then_row c.args.stands.now (targets_in c.args.targets.now) c.args.self.now.low) (then_row c.args.stands.now (targets_in c.args.targets.now) c.args.self.now.high) c.requires.sorted)

pub chained-requires-clause-sizes : goal.chained-requires-clause-sizes
chained-requires-clause-sizes c =
    rw c.parts.ensures.low
    (all_left (λ (stand : Stand). 0 < stand.size) (then_row c.args.stands.now (targets_in c.args.targets.now) c.args.self.now.low) (then_row c.args.stands.now (targets_in c.args.targets.now) c.args.self.now.high) c.requires.sizes)

pub chained-requires-then-chained-clause-sorted : goal.chained-requires-then-chained-clause-sorted
chained-requires-then-chained-clause-sorted c =
    rw c.parts.ensures.high
    (sorted_right (then_row c.args.stands.now (targets_in c.args.targets.now) c.args.self.now.low) (then_row c.args.stands.now (targets_in c.args.targets.now) c.args.self.now.high) c.requires.sorted)

pub chained-requires-then-chained-clause-sizes : goal.chained-requires-then-chained-clause-sizes
chained-requires-then-chained-clause-sizes c =
    rw c.parts.ensures.high
    (all_right (λ (stand : Stand). 0 < stand.size) (then_row c.args.stands.now (targets_in c.args.targets.now) c.args.self.now.low) (then_row c.args.stands.now (targets_in c.args.targets.now) c.args.self.now.high) c.requires.sizes)

pub returns-then-chained : goal.returns-then-chained
returns-then-chained c =
    let low = then_row c.args.stands.now (targets_in c.args.targets.now) c.args.self.now.low in
    let high = then_row c.args.stands.now (targets_in c.args.targets.now) c.args.self.now.high in
    let first = rw c.parts.ensures.low at c.chained.ensures in
    let second = rw c.parts.ensures.high at c.chained-then-chained.ensures in
    second ∙ sym (apart_parts low high c.requires.low c.requires.high ∙ ap (λ b. b && apart high) (sym first ∙ c.if-chained.true))

pub returns-else-chained : goal.returns-else-chained
returns-else-chained c =
    let low = then_row c.args.stands.now (targets_in c.args.targets.now) c.args.self.now.low in
    let high = then_row c.args.stands.now (targets_in c.args.targets.now) c.args.self.now.high in
    let first = rw c.parts.ensures.low at c.chained.ensures in
    c.if-chained.false ∙ sym (apart_parts low high c.requires.low c.requires.high ∙ ap (λ b. b && apart high) (sym first ∙ c.if-chained.false))
