use Rattle.std.proofs.Common.{◌-◌, refl, ap, arith, length}
use Rattle.std.proofs.lemmas.List.{length-map, length-append, get_or-append_right}
use Rattle.moving_heap.specs.Orders.{row, stand_at}
use Rattle.moving_heap.proofs.OrderLemmas.{sorted_right}
use Rattle.moving_heap.proofs.orders.Order.count_to.Goals as goal

pub count_to-requires-else-word : goal.count_to-requires-else-word
count_to-requires-else-word c =
    rw c.parts.ensures.high (sorted_right (row c.args.stands.now c.args.self.now.low) (row c.args.stands.now c.args.self.now.high) c.requires.order.sorted)

pub returns-else-word-clause-above : goal.returns-else-word-clause-above
returns-else-word-clause-above c =
    let low = row c.args.stands.now c.args.self.now.low in
    let high = row c.args.stands.now c.args.self.now.high in
    let size = length-append low high in
    let many = length-map c.args.self.now.low (stand_at c.args.stands.now) in
    let same = ap length c.parts.ensures.low in
    let above = rw c.parts.ensures.high at c.count_to-else-word.ensures.above in
    λ k d from within. rw (get_or-append_right low high (length low) k d refl (omega (arith, from))) (above (k - length low) d (omega (arith, from)) (omega (arith, from, within)))
