use Rattle.std.proofs.Common.{◌≡◌, ◌++◌, List, ℕ, take, drop, sym, ap, ◌∙◌, arith, length}
use Rattle.std.specs.Prelude.{filter}
use Rattle.std.proofs.lemmas.List.{length-append}
use Rattle.std.proofs.lemmas.List.Elements.{filter-append}
use Rattle.std.proofs.lemmas.List.Kept.{IsNonDecreasingBy-filter}
use Rattle.std.proofs.lemmas.List.Sorted.{length_permutation}
use Rattle.std.proofs.Math.Seq.{take-append_seam, drop-append_seam}
use Rattle.moving_heap.specs.declared.stands.Stand.{Stand}
use Rattle.moving_heap.specs.Orders.{stays, stays_at, targets_in, row, then_row}
use Rattle.moving_heap.proofs.OrderLemmas.{sorted_left, sorted_right, sorted_parts, filled_same, low_stays, merged_high}
use Rattle.moving_heap.proofs.RowLemmas.{kept_row, then-length}
use Rattle.moving_heap.proofs.orders.Order.fill.Goals as goal

pub merge-requires-clause-sorted : goal.merge-requires-clause-sorted
merge-requires-clause-sorted c =
    rw c.parts.ensures.high (sorted_right (row c.args.stands.now c.args.from.now.low) (row c.args.stands.now c.args.from.now.high) c.requires.ranked.order.sorted)

pub merge-requires-clause-room : goal.merge-requires-clause-room
merge-requires-clause-room c =
    let targets = targets_in c.args.targets.now in
    let lows = filter (stays (targets_in c.args.targets.now)) (row c.args.stands.now c.args.from.now.low) in
    let highs = filter (stays (targets_in c.args.targets.now)) (row c.args.stands.now c.args.from.now.high) in
    let all = ap length (filter-append (stays (targets_in c.args.targets.now)) (row c.args.stands.now c.args.from.now.low) (row c.args.stands.now c.args.from.now.high)) in
    let both = length-append lows highs in
    let room = rw (← c.self.view_is) at c.requires.room in
    rw c.parts.ensures.high (omega (arith, c.self.invariant.1, c.clear.ensures.capacity))

pub keep-requires : goal.keep-requires
keep-requires c =
    let targets = targets_in c.args.targets.now in
    let lows = filter (stays (targets_in c.args.targets.now)) (row c.args.stands.now c.args.from.now.low) in
    let highs = filter (stays (targets_in c.args.targets.now)) (row c.args.stands.now c.args.from.now.high) in
    let leaving = then_row c.args.stands.now (targets_in c.args.targets.now) c.args.leaving.now in
    let merged = length_permutation (highs ++ leaving) (then_row c.args.stands.now (targets_in c.args.targets.now) c.merge.new.next.items) (rw c.parts.ensures.high at c.merge.ensures.same) in
    let size = length-append highs leaving in
    let gone = then-length c.args.stands.now targets c.args.leaving.now in
    let made = then-length c.args.stands.now targets c.merge.new.next.items in
    let all = ap length (filter-append (stays (targets_in c.args.targets.now)) (row c.args.stands.now c.args.from.now.low) (row c.args.stands.now c.args.from.now.high)) in
    let both = length-append lows highs in
    let kept = sym (then-length c.args.stands.now targets (filter (stays_at c.args.stands.now (targets_in c.args.targets.now)) c.args.from.now.low)) ∙ ap length (kept_row c.args.stands.now targets c.args.from.now.low) in
    let room = rw (← c.self.view_is) at c.requires.room in
    rw c.parts.ensures.low (omega (arith, c.self.invariant.1, c.clear.ensures.capacity, c.merge.ensures.capacity))

parts_of : (merged kept : List ℕ) (count : ℕ) → count ≡ length merged → (drop count (merged ++ kept) ≡ kept) × (take count (merged ++ kept) ≡ merged)
parts_of merged kept count e = rw e (drop-append_seam merged kept, take-append_seam merged kept)

pub invariant_of-self : goal.invariant_of-self
invariant_of-self c =
    let size = ap length c.keep.ensures.stayers in
    let both = length-append c.merge.new.next.items (filter (stays_at c.args.stands.now (targets_in c.args.targets.now)) c.parts.result.0.now) in
    (omega (arith, c.len-self-inside.ensures), omega (arith, c.self.invariant.1, c.clear.ensures.capacity, c.merge.ensures.capacity, c.keep.ensures.capacity))

pub returns-clause-same : goal.returns-clause-same
returns-clause-same c =
    let targets = targets_in c.args.targets.now in
    let kept = filter (stays_at c.args.stands.now (targets_in c.args.targets.now)) c.args.from.now.low in
    let merged = c.merge.new.next.items in
    let items : c.keep.new.next.items ≡ c.merge.new.next.items ++ filter (stays_at c.args.stands.now (targets_in c.args.targets.now)) c.args.from.now.low = rw c.parts.ensures.low at c.keep.ensures.stayers in
    let count : c.len-self-inside.result ≡ length c.merge.new.next.items = omega (arith, c.len-self-inside.ensures) in
    let parts = parts_of merged kept c.len-self-inside.result count in
    rw (items, parts.0, parts.1, kept_row c.args.stands.now targets c.args.from.now.low)
    (filled_same targets (row c.args.stands.now c.args.from.now.low) (row c.args.stands.now c.args.from.now.high) (then_row c.args.stands.now targets c.args.leaving.now)
    (then_row c.args.stands.now targets merged) (rw c.parts.ensures.high at c.merge.ensures.same))

pub returns-clause-sorted : goal.returns-clause-sorted
returns-clause-sorted c =
    let targets = targets_in c.args.targets.now in
    let lows = row c.args.stands.now c.args.from.now.low in
    let highs = row c.args.stands.now c.args.from.now.high in
    let leaving = then_row c.args.stands.now (targets_in c.args.targets.now) c.args.leaving.now in
    let kept = filter (stays_at c.args.stands.now (targets_in c.args.targets.now)) c.args.from.now.low in
    let merged = c.merge.new.next.items in
    let items : c.keep.new.next.items ≡ c.merge.new.next.items ++ filter (stays_at c.args.stands.now (targets_in c.args.targets.now)) c.args.from.now.low = rw c.parts.ensures.low at c.keep.ensures.stayers in
    let count : c.len-self-inside.result ≡ length c.merge.new.next.items = omega (arith, c.len-self-inside.ensures) in
    let parts = parts_of merged kept c.len-self-inside.result count in
    let first = sorted_left lows highs c.requires.ranked.order.sorted in
    rw (items, parts.0, parts.1, kept_row c.args.stands.now targets c.args.from.now.low)
    (sorted_parts (filter (stays targets) lows) (then_row c.args.stands.now targets merged) (IsNonDecreasingBy-filter (λ (s : Stand). s.address) (stays targets) lows first) c.merge.ensures.sorted
    (low_stays targets lows c.requires.ranked.lower)
    (merged_high targets highs leaving (then_row c.args.stands.now targets merged) c.requires.ranked.upper c.requires.leaving_high (rw c.parts.ensures.high at c.merge.ensures.same)))

pub returns-clause-low : goal.returns-clause-low
returns-clause-low c =
    let targets = targets_in c.args.targets.now in
    let kept = filter (stays_at c.args.stands.now (targets_in c.args.targets.now)) c.args.from.now.low in
    let items : c.keep.new.next.items ≡ c.merge.new.next.items ++ filter (stays_at c.args.stands.now (targets_in c.args.targets.now)) c.args.from.now.low = rw c.parts.ensures.low at c.keep.ensures.stayers in
    let count : c.len-self-inside.result ≡ length c.merge.new.next.items = omega (arith, c.len-self-inside.ensures) in
    let parts = parts_of c.merge.new.next.items kept c.len-self-inside.result count in
    rw (items, parts.0, kept_row c.args.stands.now targets c.args.from.now.low) (low_stays targets (row c.args.stands.now c.args.from.now.low) c.requires.ranked.lower)

pub returns-clause-high : goal.returns-clause-high
returns-clause-high c =
    let targets = targets_in c.args.targets.now in
    let kept = filter (stays_at c.args.stands.now (targets_in c.args.targets.now)) c.args.from.now.low in
    let merged = c.merge.new.next.items in
    let items : c.keep.new.next.items ≡ c.merge.new.next.items ++ filter (stays_at c.args.stands.now (targets_in c.args.targets.now)) c.args.from.now.low = rw c.parts.ensures.low at c.keep.ensures.stayers in
    let count : c.len-self-inside.result ≡ length c.merge.new.next.items = omega (arith, c.len-self-inside.ensures) in
    let parts = parts_of merged kept c.len-self-inside.result count in
    rw (items, parts.1) (merged_high targets (row c.args.stands.now c.args.from.now.high) (then_row c.args.stands.now targets c.args.leaving.now) (then_row c.args.stands.now targets merged)
    c.requires.ranked.upper c.requires.leaving_high (rw c.parts.ensures.high at c.merge.ensures.same))
