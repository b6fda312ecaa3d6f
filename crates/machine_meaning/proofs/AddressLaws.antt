-- Words follow their objects: the cells and the slots of the relation after a group.
use Rattle.std.proofs.Common.{◌≡◌, ℕ, zero, suc, ◌+◌, ◌-◌, ◌<◌, ◌%◌, ◌^◌, List, length, get_or, refl, sym, ap, ◌∙◌, subst, arith, Option, Some, None, ◌⊎◌, inl, inr}
use Rattle.std.specs.Option.{option_map_or, unwrap_or}
use Rattle.std.proofs.lemmas.Option.{slice_get-get_or}
use Rattle.ir_ast.specs.Objects.{Pointer}
use Rattle.moving_heap.specs.declared.stands.Stand.{Stand}
use Rattle.moving_heap.specs.declared.stands.Moved.{Moved}
use Rattle.moving_heap.specs.Places.{moved, moves_of, new_address, new_word}
use Rattle.moving_heap.specs.Settled.{AreSettled}
use Rattle.moving_heap.specs.Heaps.{of_number}
use Rattle.moving_heap.proofs.PlaceLemmas.{moved-length, word_moves, null_stays, address_moves, moved_by, different}
use Rattle.frame_walk.specs.Walks.{carried_word}
use Rattle.machine_meaning.specs.Relations.{addr, IsInHeap, IsPair}

abbrev blank : Stand
blank = record { number = 0; size = 0; address = 0 }

-- what stands behind an object's number
stand_at : (stands : List Stand) (object k : ℕ) → object ≡ suc k → k < length stands → of_number stands object ≡ Some (get_or stands k blank)
stand_at stands object k e l = rw e (slice_get-get_or stands k blank l)

-- an object's pointer as its address and offset
pub addr_of : (stands : List Stand) (to : Pointer) (k : ℕ) → to.object ≡ suc k → k < length stands → addr stands to ≡ ((get_or stands k blank).address + to.offset) % 2 ^ 64
addr_of stands to k e l = ap (λ o. (option_map_or (λ (s : Stand). s.address) o 0 + to.offset) % 2 ^ 64) (stand_at stands to.object k e l)

-- a pointer without an object as its offset
pub addr_none : (stands : List Stand) (to : Pointer) → to.object ≡ 0 → to.offset < 2 ^ 64 → addr stands to ≡ to.offset
addr_none stands to e small =
    let none : of_number stands to.object ≡ None = ap (of_number stands) e in
    ap (λ o. (option_map_or (λ (s : Stand). s.address) o 0 + to.offset) % 2 ^ 64) none ∙ (let fits : (0 + to.offset) % 2 ^ 64 ≡ to.offset = omega arith in fits)

pub none_or : (n : ℕ) → (n ≡ 0) ⊎ ((k : ℕ) × (n ≡ suc k))
none_or zero = inl refl
none_or (suc k) = inr (k, refl)

-- the word of a base with offset 0
base_word : (stands : List Stand) (base : Pointer) (k : ℕ) → AreSettled stands → base.object ≡ suc k → k < length stands → base.offset ≡ 0 → addr stands base ≡ (get_or stands k blank).address
base_word stands base k are e l first =
    let top = (are.each k blank l).top in
    addr_of stands base k e l ∙ (let fits : ((get_or stands k blank).address + base.offset) % 2 ^ 64 ≡ (get_or stands k blank).address = omega arith in fits)

by_option : (o : Option ℕ) (base derived : ℕ) → option_map_or (λ new. (derived + 2 ^ 64 - base + new) % 2 ^ 64) o derived ≡ moved_by o base derived
by_option None base derived = refl
by_option (Some new) base derived = refl

as_moved : (moves : List Moved) (base derived : ℕ) → carried_word moves base derived ≡ moved_by (new_address moves base) base derived
as_moved moves base derived = by_option (new_address moves base) base derived

-- a slot after the walk: the word of a pair's derived value is its address in the moved heap
pub slot_moves : (stands : List Stand) (targets : List (Option ℕ)) (derived base : Pointer) (derived_word word : ℕ) → AreSettled stands → IsPair stands derived base derived_word word
    → carried_word (moves_of stands targets) word derived_word ≡ addr (moved stands targets) derived
slot_moves stands targets derived base derived_word word are pair =
    elim (none_or derived.object) [
      | inl e ↦ (
          let base_none = addr_none stands base (pair.same ∙ e) (let h : base.offset < 2 ^ 64 = omega (arith, pair.first) in h) in
          let null : word ≡ 0 = pair.base_is ∙ base_none ∙ pair.first in
          ap (λ (w : ℕ). carried_word (moves_of stands targets) w derived_word) null
          ∙ ap (λ o. option_map_or (λ new. (derived_word + 2 ^ 64 - 0 + new) % 2 ^ 64) o derived_word) (null_stays stands targets are)
          ∙ pair.derived_is ∙ addr_none stands derived e pair.heap.offset ∙ sym (addr_none (moved stands targets) derived e pair.heap.offset))
      | inr at ↦ (
          let k = at.0 in
          let within : at.0 < length stands = omega (arith, pair.heap.object, at.1) in
          let base_is : word ≡ (get_or stands at.0 blank).address = pair.base_is ∙ base_word stands base at.0 are (pair.same ∙ at.1) within pair.first in
          let derived_is : derived_word ≡ ((get_or stands at.0 blank).address + derived.offset) % 2 ^ 64 = pair.derived_is ∙ addr_of stands derived at.0 at.1 within in
          let moved_within : at.0 < length (moved stands targets) = subst (λ (n : ℕ). at.0 < n) (sym (moved-length stands targets)) within in
          ap (λ (w : ℕ). carried_word (moves_of stands targets) w derived_word) base_is
          ∙ ap (carried_word (moves_of stands targets) (get_or stands at.0 blank).address) derived_is
          ∙ as_moved (moves_of stands targets) (get_or stands at.0 blank).address (((get_or stands at.0 blank).address + derived.offset) % 2 ^ 64)
          ∙ address_moves stands targets at.0 derived.offset blank are within
          ∙ sym (addr_of (moved stands targets) derived at.0 at.1 moved_within))
    ]

-- a pointer cell after the move
pub cell_moves : (stands : List Stand) (targets : List (Option ℕ)) (to : Pointer) (held : ℕ) → AreSettled stands → AreSettled (moved stands targets) → IsInHeap stands to → to.offset ≡ 0 → held ≡ addr stands to
    → new_word (moves_of stands targets) held ≡ addr (moved stands targets) to
cell_moves stands targets to held are after heap first is =
    elim (none_or to.object) [
      | inl e ↦ (
          let none : held ≡ 0 = is ∙ addr_none stands to e heap.offset ∙ first in
          ap (new_word (moves_of stands targets)) none ∙ ap (λ o. unwrap_or o 0) (null_stays stands targets are)
          ∙ sym (addr_none (moved stands targets) to e heap.offset ∙ first))
      | inr at ↦ (
          let within : at.0 < length stands = omega (arith, heap.object, at.1) in
          let moved_within : at.0 < length (moved stands targets) = subst (λ (n : ℕ). at.0 < n) (sym (moved-length stands targets)) within in
          ap (new_word (moves_of stands targets)) (is ∙ base_word stands to at.0 are at.1 within first)
          ∙ word_moves stands targets at.0 blank (different stands are) within
          ∙ sym (base_word (moved stands targets) to at.0 after at.1 moved_within first))
    ]
