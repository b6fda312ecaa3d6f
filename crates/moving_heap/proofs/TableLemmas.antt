-- Tables of places: after a pending group, and with a further object.
use Rattle.std.proofs.Common.{◌≡◌, ℕ, ◌+◌, ◌≤◌, ◌%◌, ◌⊎◌, Option, inl, inr, List, [], ◌∷◌, ◌++◌, length, map, refl, sym, ap, ◌∙◌, arith}
use Rattle.std.specs.List.{sum_by}
use Rattle.std.proofs.lemmas.List.{length-map, length_push}
use Rattle.std.proofs.lemmas.List.Sums.{sum_by-cons, sum_by_push}
use Rattle.moving_heap.specs.declared.stands.Stand.{Stand}
use Rattle.move_plan.specs.declared.plan_lines.Move.{Move}
use Rattle.moving_heap.specs.declared.stands.Moved.{Moved}
use Rattle.moving_heap.specs.declared.stands.Verdict.{Verdict}
use Rattle.moving_heap.specs.declared.stands.Verdict.TheVariants.{Empty, Legal, Illegal}
use Rattle.moving_heap.specs.Places.{carried, new_stand, first_place, verdict, group_moves}
use Rattle.moving_heap.specs.Orders.{Ordered}
use Rattle.moving_heap.specs.Settled.{IsTable, IsDue, Group}
use Rattle.moving_heap.proofs.PlaceLemmas.{settled_added}
use Rattle.moving_heap.proofs.RowLemmas.{ranked_added}
use Rattle.moving_heap.proofs.GroupLemmas.{no_moves}

abbrev pub sizes : List Stand → ℕ
sizes stands = sum_by (λ stand. stand.size) stands

pub carried-sum : (moves : List Moved) (stands : List Stand) → sizes (map (carried moves) stands) ≡ sizes stands
carried-sum moves [] = refl
carried-sum moves (stand ∷ stands) =
    sum_by-cons (λ (s : Stand). s.size) (carried moves stand) (map (carried moves) stands) ∙ ap (λ n. stand.size + n) (carried-sum moves stands) ∙ sym (sum_by-cons (λ (s : Stand). s.size) stand stands)

ready_due : (stands : List Stand) (next : Ordered) (lines : List Move) (event : Option ℕ) (answer : Verdict) → answer ≡ verdict stands lines event
    → (answer ≡ Legal → IsDue stands next (group_moves stands lines event)) → (group_moves stands lines event ≡ []) ⊎ IsDue stands next (group_moves stands lines event)
ready_due stands next lines event Empty is due = inl (sym (no_moves stands lines event Empty is (λ e. let no : ⊥ = cc in no)))
ready_due stands next lines event Legal is due = inr (due refl)
ready_due stands next lines event Illegal is due = inl (sym (no_moves stands lines event Illegal is (λ e. let no : ⊥ = cc in no)))

pub due_of : (stands : List Stand) (order next : Ordered) (used : ℕ) (group : Group) → IsTable stands order next used group → (group.moves ≡ [] → ⊥) → IsDue stands next group.moves
due_of stands order next used group is some = elim is.due [ inl none ↦ absurd (some none) | inr due ↦ due ]

pub table_applied : (stands : List Stand) (order next : Ordered) (used : ℕ) (group new_group : Group) (new_stands : List Stand)
    → IsTable stands order next used group → (group.moves ≡ [] → ⊥) → new_stands ≡ map (carried group.moves) stands → new_group.moves ≡ [] → new_group.room ≡ group.room
    → IsTable new_stands next order used new_group
table_applied stands order next used group new_group new_stands is some stands_are none room_is =
    let due = due_of stands order next used group is some in
    rw stands_are (record {
      settled = due.settled;
      ranked = due.ranked;
      used_is = is.used_is ∙ sym (carried-sum group.moves stands);
      room = rw (room_is, length-map stands (carried group.moves)) is.room;
      due = inl none;
    })

pub table_added : (stands : List Stand) (order next : Ordered) (used : ℕ) (group : Group) (new_stands : List Stand) (new_order : Ordered) (new_used : ℕ) (new_group : Group) (place size : ℕ)
    → IsTable stands order next used group → 8 ≤ size → size % 8 ≡ 0 → sizes stands + size ≤ 67108864 → place ≡ length stands
    → new_stands ≡ stands ++ new_stand stands size ∷ [] → new_order ≡ record { low = order.low ++ place ∷ []; high = order.high; room = order.room }
    → new_used ≡ used + size → new_group.moves ≡ [] → length stands + 1 ≤ new_group.room
    → IsTable new_stands new_order next new_used new_group
table_added stands order next used group new_stands new_order new_used new_group place size is low whole fits at stands_are order_is used_is none room_is =
    let count = length_push stands (new_stand stands size) in
    let sum = sum_by_push (λ (s : Stand). s.size) stands (new_stand stands size) in
    rw (stands_are, order_is) (record {
      settled = settled_added stands size is.settled low whole fits;
      ranked = ranked_added stands order size place is.settled is.ranked at fits;
      used_is = used_is ∙ ap (λ m. m + size) is.used_is ∙ sym sum;
      room = rw count room_is;
      due = inl none;
    })

pub new_is : (stands : List Stand) (number size address : ℕ) → number ≡ length stands + 1 → address ≡ first_place stands
    → ◌≡◌ {A = Stand} (record { number = number; size = size; address = address }) (new_stand stands size)
new_is stands number size address n a = cc

pub table_ready : (stands : List Stand) (order next new_next : Ordered) (used : ℕ) (group new_group : Group) (lines : List Move) (event : Option ℕ) (answer : Verdict)
    → IsTable stands order next used group → answer ≡ verdict stands lines event → new_group ≡ record { moves = group_moves stands lines event; room = group.room }
    → (answer ≡ Legal → IsDue stands new_next (group_moves stands lines event)) → IsTable stands order new_next used new_group
table_ready stands order next new_next used group new_group lines event answer is verdict_is group_is due =
    rw group_is (record {
      settled = is.settled;
      ranked = is.ranked;
      used_is = is.used_is;
      room = is.room;
      due = ready_due stands new_next lines event answer verdict_is due;
    })
