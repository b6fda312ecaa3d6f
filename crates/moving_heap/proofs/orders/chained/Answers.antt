use Rattle.std.proofs.Common.{◌≡◌, ◌+◌, ◌-◌, ◌<◌, ◌≤◌, ℕ, List, get_or, refl, sym, ap, ◌∙◌, arith, length, false, inl, inr}
use Rattle.std.specs.List.Sorted.{IsNonDecreasingBy}
use Rattle.std.proofs.lemmas.Bool.{cases_eq}
use Rattle.moving_heap.specs.declared.stands.Stand.{Stand}
use Rattle.moving_heap.specs.Places.{apart}
use Rattle.moving_heap.specs.Orders.{then_row, targets_in, nowhere}
use Rattle.moving_heap.proofs.ApartLemmas.{not_apart, chained_all, chained_more, chained_none}
use Rattle.moving_heap.proofs.RowLemmas.{then_get, then-length}
use Rattle.moving_heap.proofs.orders.chained.Goals as goal

-- the one before stands no higher; before the first there is nothing
rises : (row : List Stand) (place : ℕ) (before here : Stand) → IsNonDecreasingBy (λ stand. stand.address) row → place < length row → get_or row place nowhere ≡ here
    → (place ≡ 0 → before ≡ nowhere) → ((d : Stand) → 0 < place → get_or row (place - 1) d ≡ before) → before.address ≤ here.address
rises row place before here sorted l is first last =
    elim (cases_eq place 0) [
      | inl none ↦ (let address = ap (λ (s : Stand). s.address) (first none) in omega arith)
      | inr some ↦ (
          let low = ap (λ (s : Stand). s.address) (last nowhere (omega arith)) in
          let high = ap (λ (s : Stand). s.address) is in
          let le = sorted (place - 1) place nowhere (omega arith) l in omega arith)
    ]

-- one that reaches into the next isn't the one before the first
reaches : (row : List Stand) (place : ℕ) (before here : Stand) → place < length row → get_or row place nowhere ≡ here → (place ≡ 0 → before ≡ nowhere)
    → ((d : Stand) → 0 < place → get_or row (place - 1) d ≡ before) → here.address - before.address < before.size → before.address ≤ here.address → 0 < here.size → apart row ≡ false
reaches row place before here l is first last over sorted some =
    elim (cases_eq place 0) [
      | inl none ↦ (let size = ap (λ (s : Stand). s.size) (first none) in absurd (omega arith))
      | inr later ↦ (
          let at : (place - 1) + 1 ≡ place = omega arith in
          let next : get_or row ((place - 1) + 1) nowhere ≡ here = ap (λ p. get_or row p nowhere) at ∙ is in
          let is_before = last nowhere (omega arith) in
          not_apart row (place - 1) nowhere (omega arith) (rw (next, is_before) (omega arith)) (rw (next, is_before) sorted) (rw next some))
    ]

pub loop-place-init : goal.loop-place-init
loop-place-init c = record { chained = chained_none _; first = λ e. refl; last = λ d l. absurd (omega arith) }

pub overflow_sub-here : goal.overflow_sub-here
overflow_sub-here c =
    let row = then_row c.args.stands.now (targets_in c.args.targets.now) c.args.order.now in
    let size = then-length c.args.stands.now (targets_in c.args.targets.now) c.args.order.now in
    let here = then_get c.args.stands.now (targets_in c.args.targets.now) c.args.order.now c.loop-place.place-index nowhere c.loop-place-test.true ∙ sym c.then_at-here.ensures in
    rises row c.loop-place.place-index c.loop-place.before c.then_at-here.result c.requires.sorted (omega (arith, c.loop-place-test.true)) here c.loop-place.invariant.first c.loop-place.invariant.last

pub returns-then-from-here : goal.returns-then-from-here
returns-then-from-here c =
    let row = then_row c.args.stands.now (targets_in c.args.targets.now) c.args.order.now in
    let size = then-length c.args.stands.now (targets_in c.args.targets.now) c.args.order.now in
    let within : c.loop-place.place-index < length row = omega (arith, c.loop-place-test.true) in
    let here = then_get c.args.stands.now (targets_in c.args.targets.now) c.args.order.now c.loop-place.place-index nowhere c.loop-place-test.true ∙ sym c.then_at-here.ensures in
    let some = c.requires.sizes c.loop-place.place-index nowhere within in
    let large = ap (λ (s : Stand). s.size) here in
    let le = rises row c.loop-place.place-index c.loop-place.before c.then_at-here.result c.requires.sorted within here c.loop-place.invariant.first c.loop-place.invariant.last in
    sym (reaches row c.loop-place.place-index c.loop-place.before c.then_at-here.result within here c.loop-place.invariant.first c.loop-place.invariant.last
    (omega (arith, c.from.ensures, c.if-from-here.true)) le (omega (arith, some, large)))

pub loop-place-preserved : goal.loop-place-preserved
loop-place-preserved c =
    let row = then_row c.args.stands.now (targets_in c.args.targets.now) c.args.order.now in
    let size = then-length c.args.stands.now (targets_in c.args.targets.now) c.args.order.now in
    let within : c.loop-place.place-index < length row = omega (arith, c.loop-place-test.true) in
    let at = λ (d : Stand). then_get c.args.stands.now (targets_in c.args.targets.now) c.args.order.now c.loop-place.place-index d c.loop-place-test.true ∙ sym c.then_at-here.ensures in
    let le = rises row c.loop-place.place-index c.loop-place.before c.then_at-here.result c.requires.sorted within (at nowhere) c.loop-place.invariant.first c.loop-place.invariant.last in
    record {
      chained = chained_more row c.loop-place.place-index c.loop-place.invariant.chained
          (λ d some.
          let before = c.loop-place.invariant.last d some in
          let low = ap (λ (s : Stand). s.address + s.size) before in
          let here = ap (λ (s : Stand). s.address) (at d) in
          omega (arith, here, low, le, c.from.ensures, c.if-from-here.false));
      first = λ e. absurd (omega arith);
      last = λ d l. ap (λ p. get_or row p d) (let same : (c.loop-place.place-index + 1) - 1 ≡ c.loop-place.place-index = omega arith in same) ∙ at d;
    }

pub returns : goal.returns
returns c =
    let size = then-length c.args.stands.now (targets_in c.args.targets.now) c.args.order.now in
    sym (chained_all (then_row c.args.stands.now (targets_in c.args.targets.now) c.args.order.now) c.loop-place.place-index c.loop-place.invariant.chained (omega (arith, c.loop-place-test.false)) c.requires.sorted)
