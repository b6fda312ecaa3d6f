use Rattle.std.proofs.Common.{◌≡◌, ◌++◌, List, ℕ, ap, sym, ◌∙◌, subst, arith, rules, length}
use Rattle.std.specs.Prelude.{filter}
use Rattle.std.specs.List.Sorted.{IsPermutation}
use Rattle.std.proofs.lemmas.List.Sorted.{IsNonDecreasingBy-from_sort_by_key, IsPermutation-map, All-permutation, length_permutation}
use Rattle.moving_heap.specs.declared.stands.Stand.{Stand}
use Rattle.moving_heap.specs.Orders.{targets_in, leaves_at, then_at, then_row, ranks, IsHigh}
use Rattle.moving_heap.proofs.OrderLemmas.{sent_order}
use Rattle.moving_heap.proofs.RowLemmas.{leaving-length, leaving_same, rising_map}
use Rattle.moving_heap.proofs.groups.arrange.Goals as goal

pub gather-requires : goal.gather-requires
gather-requires c =
    let all = leaving-length c.args.stands.now (targets_in c.args.targets.now) c.args.order.now in
    let none = ap length c.clear.ensures.items in omega (arith, c.requires.leaving_room, c.clear.ensures.capacity)

pub fill-requires-clause-room : goal.fill-requires-clause-room
fill-requires-clause-room c =
    let all = leaving-length c.args.stands.now (targets_in c.args.targets.now) c.args.order.now in
    let gathered : c.gather.new.leaving.items ≡ filter (leaves_at c.args.stands.now (targets_in c.args.targets.now)) (c.args.order.now.low ++ c.args.order.now.high) =
    c.gather.ensures.leavers ∙ ap (λ (l : List ℕ). l ++ filter (leaves_at c.args.stands.now (targets_in c.args.targets.now)) (c.args.order.now.low ++ c.args.order.now.high)) c.clear.ensures.items in
    let count = ap length gathered in
    let sorted = length_permutation c.gather.new.leaving.items c.sort_unstable_by_key.new.self.items c.sort_unstable_by_key.ensures.permutation in
    let size = ap length c.as_slice.ensures.value in omega (arith, c.requires.next_room)

pub fill-requires-clause-leaving_sorted : goal.fill-requires-clause-leaving_sorted
fill-requires-clause-leaving_sorted c =
    rw c.as_slice.ensures.value
    (rising_map (then_at c.args.stands.now (targets_in c.args.targets.now)) (λ (s : Stand). s.address) c.sort_unstable_by_key.new.self.items 0
    (IsNonDecreasingBy-from_sort_by_key (λ (place : ℕ). (then_at c.args.stands.now (targets_in c.args.targets.now) place).address) c.sort_unstable_by_key.new.self.items c.sort_unstable_by_key.ensures.sorted
    (λ a r q k. search rules)))

pub fill-requires-clause-leaving_high : goal.fill-requires-clause-leaving_high
fill-requires-clause-leaving_high c =
    let gathered : c.gather.new.leaving.items ≡ filter (leaves_at c.args.stands.now (targets_in c.args.targets.now)) (c.args.order.now.low ++ c.args.order.now.high) =
    c.gather.ensures.leavers ∙ ap (λ (l : List ℕ). l ++ filter (leaves_at c.args.stands.now (targets_in c.args.targets.now)) (c.args.order.now.low ++ c.args.order.now.high)) c.clear.ensures.items in
    let high = subst (λ (l : List ℕ). IsPermutation l c.sort_unstable_by_key.new.self.items) gathered c.sort_unstable_by_key.ensures.permutation in
    rw c.as_slice.ensures.value
    (All-permutation IsHigh (then_row c.args.stands.now (targets_in c.args.targets.now) (filter (leaves_at c.args.stands.now (targets_in c.args.targets.now)) (c.args.order.now.low ++ c.args.order.now.high)))
    (then_row c.args.stands.now (targets_in c.args.targets.now) c.sort_unstable_by_key.new.self.items)
    (IsPermutation-map (then_at c.args.stands.now (targets_in c.args.targets.now)) _ c.sort_unstable_by_key.new.self.items high) c.requires.high)

pub returns-clause-same : goal.returns-clause-same
returns-clause-same c =
    let gathered : c.gather.new.leaving.items ≡ filter (leaves_at c.args.stands.now (targets_in c.args.targets.now)) (c.args.order.now.low ++ c.args.order.now.high) =
    c.gather.ensures.leavers ∙ ap (λ (l : List ℕ). l ++ filter (leaves_at c.args.stands.now (targets_in c.args.targets.now)) (c.args.order.now.low ++ c.args.order.now.high)) c.clear.ensures.items in
    sent_order (ranks c.args.stands.now c.args.order.now) (then_row c.args.stands.now (targets_in c.args.targets.now) c.as_slice.result.now) _ (targets_in c.args.targets.now)
    (leaving_same c.args.stands.now (targets_in c.args.targets.now) c.args.order.now c.gather.new.leaving.items c.as_slice.result.now gathered
    (subst (λ (l : List ℕ). IsPermutation c.gather.new.leaving.items l) (sym c.as_slice.ensures.value) c.sort_unstable_by_key.ensures.permutation)) c.fill.ensures.same
