use Rattle.std.proofs.Common.{◌≡◌, ℕ, List, Some, map, ap, sym, ◌∙◌, subst, arith}
use Rattle.std.proofs.lemmas.List.{get_or-map, length-map}
use Rattle.moving_heap.specs.declared.stands.Moved.{Moved}
use Rattle.moving_heap.specs.Places.{new_address}
use Rattle.moving_heap.specs.Settled.{AreMoves, move_at}
use Rattle.moving_heap.proofs.FindLemmas.{address_found, address_not_found}
use Rattle.moving_heap.proofs.moves.Moves.new_address.Goals as goal

abbrev blank : Moved
blank = record { old = 0; new = 0 }

lent : (list moves : List Moved) (sorted places : List ℕ) → moves ≡ list → places ≡ sorted → AreMoves list (map (move_at list) sorted) → AreMoves moves (map (move_at moves) places)
lent list moves sorted places m p are =
    subst (λ (l : List Moved). AreMoves l (map (move_at l) places)) (sym m) (subst (λ (q : List ℕ). AreMoves list (map (move_at list) q)) (sym p) are)

pub returns-then-moved-old : goal.returns-then-moved-old
returns-then-moved-old c =
    let moves = c.as_slice-moves.result.now in
    let places = c.as_slice-sorted.result.now in
    let are = lent c.self.inside.list.items moves c.self.inside.sorted.items places c.as_slice-moves.ensures.value c.as_slice-sorted.ensures.value c.self.invariant.0 in
    let size = length-map places (move_at moves) in
    let same = get_or-map (move_at moves) places c.first_from-place.result 0 blank c.if-place-sorted.true ∙ sym c.move_at-moved.ensures in
    rw (← c.self.view_is)
    (ap (λ (m : Moved). Some m.new) (sym same)
    ∙ address_found moves (map (move_at moves) places) c.args.old c.first_from-place.result blank are (omega (arith, c.if-place-sorted.true)) (ap (λ (m : Moved). m.old) same ∙ c.if-moved-old.true)
    ∙ ap (λ (l : List Moved). new_address l c.args.old) c.as_slice-moves.ensures.value)

pub returns-else-moved-old : goal.returns-else-moved-old
returns-else-moved-old c =
    let moves = c.as_slice-moves.result.now in
    let places = c.as_slice-sorted.result.now in
    let are = lent c.self.inside.list.items moves c.self.inside.sorted.items places c.as_slice-moves.ensures.value c.as_slice-sorted.ensures.value c.self.invariant.0 in
    rw (← c.self.view_is)
    (address_not_found moves (map (move_at moves) places) c.args.old c.first_from-place.result are c.first_from-place.ensures.below c.first_from-place.ensures.above
    (λ d l e. c.if-moved-old.false (ap (λ (m : Moved). m.old) (c.move_at-moved.ensures ∙ sym (get_or-map (move_at moves) places c.first_from-place.result 0 d c.if-place-sorted.true)) ∙ e))
    ∙ ap (λ (l : List Moved). new_address l c.args.old) c.as_slice-moves.ensures.value)

pub returns-else-place-sorted : goal.returns-else-place-sorted
returns-else-place-sorted c =
    let moves = c.as_slice-moves.result.now in
    let places = c.as_slice-sorted.result.now in
    let are = lent c.self.inside.list.items moves c.self.inside.sorted.items places c.as_slice-moves.ensures.value c.as_slice-sorted.ensures.value c.self.invariant.0 in
    let size = length-map places (move_at moves) in
    rw (← c.self.view_is)
    (address_not_found moves (map (move_at moves) places) c.args.old c.first_from-place.result are c.first_from-place.ensures.below c.first_from-place.ensures.above (λ d l e. omega (arith, c.if-place-sorted.false))
    ∙ ap (λ (l : List Moved). new_address l c.args.old) c.as_slice-moves.ensures.value)
