-- What is shown of one location: a word of the frame, which has a pair or has none, or a number that the map has.
use Rattle.std.proofs.Common.{◌≡◌, ℕ, ◌+◌, ◌-◌, ◌<◌, ◌≤◌, ◌%◌, ◌^◌, ◌==◌, ℤ, inl, inr, Bool, true, false, List, ◌++◌, length, get_or, sym, ap, ◌∙◌, subst, arith, Some, None, if◌then◌else◌}
use Rattle.std.specs.Prelude.{codes, decimal, slice_get, slice_index}
use Rattle.std.specs.Fmt.{signed_decimal}
use Rattle.std.specs.Int.{cast_unsigned, w32, w64}
use Rattle.std.specs.Int.RustNames.{FitsSigned}
use Rattle.std.proofs.lemmas.Bool.{eq-eqb, ne_eqb}
use Rattle.sp_ids.specs.Numbers.{signed}
use Rattle.ir_ast.specs.Objects.{Pointer}
use Rattle.map_bytes.specs.declared.values.Place.{Place}
use Rattle.frame_walk.specs.Maps.{Pair, is_constant, is_listed, word_place}
use Rattle.moving_heap.specs.declared.stands.Stand.{Stand}
use Rattle.moving_heap.specs.Places.{stands_at}
use Rattle.moving_heap.specs.Settled.{AreSettled}
use Rattle.moving_heap.proofs.FindLemmas.{find_nothing}
use Rattle.object_meaning.specs.Numbers.{sign_extended}
use Rattle.object_meaning.specs.Texts.{shown_pointer}
use Rattle.machine_meaning.specs.Machines.{Machinery}
use Rattle.machine_meaning.specs.Relations.{AreSlots, IsPair}
use Rattle.machine_meaning.specs.TrapLines.{shown_by, shown_over, shown_place, shown_slot, shown_word}
use Rattle.machine_meaning.proofs.AddressLaws.{addr_none, none_or}
use Rattle.moves_unseen.proofs.AddressedLaws.{base_address, blank, distance, numbered, stands_here}
use Rattle.frames_shown.proofs.NumberLaws.{extended_back, word_back}
use Rattle.frames_shown.proofs.PairLaws.{HasNone, none_at, some_at}

abbrev none : Pointer
none = record { object = 0; offset = 0 }

-- ---- words of the frame

module _ (stands : List Stand) (settled : AreSettled stands) where
  -- nothing stands at 0
  null_stands : stands_at stands 0 ≡ None
  null_stands =
      find_nothing (λ (stand : Stand). stand.address == 0) stands
      (λ k one within. ne_eqb (get_or stands k one).address 0 (λ is. let low = (settled.each k one within).low in let no : ⊥ = omega arith in no))

  -- the word of a pointer, by that of its base
  pub over_shown : (to base : Pointer) (word base_word : ℕ) → IsPair stands to base word base_word → shown_over base_word word (stands_at stands base_word) ≡ shown_pointer to
  over_shown to base word base_word pair = elim (none_or to.object) [
    | inl null ↦ (
        let small : base.offset < 2 ^ 64 = omega (arith, pair.first) in
        let at_null : base_word ≡ 0 = pair.base_is ∙ (addr_none stands base (pair.same ∙ null) small ∙ pair.first) in
        let word_is : word ≡ to.offset = pair.derived_is ∙ addr_none stands to null pair.heap.offset in
        ap (λ (w : ℕ). shown_over w word (stands_at stands w)) at_null
        ∙ (ap (shown_over 0 word) null_stands
        ∙ (ap shown_word word_is
        ∙ sym (ap (λ (b : Bool). if b then signed_decimal (signed 64 to.offset) else decimal to.object ++ codes "+" ++ decimal to.offset) (eq-eqb to.object 0 null)))))
    | inr at ↦ (
        let within : at.0 < length stands = omega (arith, pair.heap.object, at.1) in
        let there : stands_at stands base_word ≡ Some (get_or stands at.0 blank) =
        ap (stands_at stands) (base_address stands settled at.0 within to base word base_word at.1 pair) ∙ stands_here stands settled at.0 within in
        let object_is : (get_or stands at.0 blank).number ≡ to.object = numbered stands settled at.0 within ∙ omega (arith, at.1) in
        ap (shown_over base_word word) there
        ∙ (ap (λ (n : ℕ). decimal n ++ codes "+" ++ decimal ((word + 2 ^ 64 - base_word) % 2 ^ 64)) object_is
        ∙ (ap (λ (n : ℕ). decimal to.object ++ codes "+" ++ decimal n) (distance stands settled at.0 within to base word base_word at.1 pair)
        ∙ sym (ap (λ (b : Bool). if b then signed_decimal (signed 64 to.offset) else decimal to.object ++ codes "+" ++ decimal to.offset)
        (ne_eqb to.object 0 (λ is. let no : ⊥ = omega (arith, at.1) in no))))))
  ]

  -- a slot that some pair has as its derived slot shows the entry's pointer
  pub pointer_shown : (entries : List Pointer) (slots : List ℕ) (pairs : List Pair) → AreSlots stands entries slots pairs
      → (word place : ℕ) (pair : Pair) → slice_get pairs place ≡ Some pair → pair.derived ≡ word
      → shown_slot stands slots pairs word ≡ shown_pointer (get_or entries word (record { object = 0; offset = 0 }))
  pointer_shown entries slots pairs hold word place pair at derived =
      let found = some_at pairs word place pair at derived in
      ap (shown_by stands slots (slice_index slots word)) found.is
      ∙ over_shown (get_or entries word none) (get_or entries found.pair.base none) (slice_index slots word) (slice_index slots found.pair.base)
      (subst (λ (n : ℕ). IsPair stands (get_or entries n none) (get_or entries found.pair.base none) (slice_index slots n) (slice_index slots found.pair.base)) found.one.derived
      (hold.each found.one.place found.pair found.one.stands))

-- a slot that no pair has shows an integer that was extended to a word
pub integer_shown : (stands : List Stand) (slots : List ℕ) (pairs : List Pair) (word width n : ℕ) → width ≤ 64 → slice_index slots word ≡ sign_extended width 64 n → HasNone pairs word
    → shown_slot stands slots pairs word ≡ signed_decimal (signed width n)
integer_shown stands slots pairs word width n small is none =
    ap (shown_by stands slots (slice_index slots word)) (none_at pairs word none)
    ∙ (ap shown_word is ∙ ap signed_decimal (extended_back width n small))

-- ---- locations

module _ (machinery : Machinery) (stands : List Stand) (words : List ℕ) (pairs : List Pair) (place : Place) where
  pub constant_shown : is_constant place ≡ true → shown_place machinery stands words pairs place ≡ signed_decimal place.offset
  constant_shown is =
      ap (λ (b : Bool). if b then signed_decimal place.offset
      else if is_listed place then shown_word (slice_index machinery.constants (cast_unsigned w32 place.offset)) else shown_slot stands words pairs (word_place place)) is

  behind_constant : is_constant place ≡ false
      → shown_place machinery stands words pairs place
      ≡ (if is_listed place then shown_word (slice_index machinery.constants (cast_unsigned w32 place.offset)) else shown_slot stands words pairs (word_place place))
  behind_constant is =
      ap (λ (b : Bool). if b then signed_decimal place.offset
      else if is_listed place then shown_word (slice_index machinery.constants (cast_unsigned w32 place.offset)) else shown_slot stands words pairs (word_place place)) is

  pub listed_shown : is_constant place ≡ false → is_listed place ≡ true → (number : ℤ) → FitsSigned w64 number
      → slice_index machinery.constants (cast_unsigned w32 place.offset) ≡ cast_unsigned w64 number → shown_place machinery stands words pairs place ≡ signed_decimal number
  listed_shown other listed number fits is =
      behind_constant other
      ∙ (ap (λ (b : Bool). if b then shown_word (slice_index machinery.constants (cast_unsigned w32 place.offset)) else shown_slot stands words pairs (word_place place)) listed
      ∙ (ap shown_word is ∙ ap signed_decimal (word_back number fits)))

  pub slot_shown : is_constant place ≡ false → is_listed place ≡ false → shown_place machinery stands words pairs place ≡ shown_slot stands words pairs (word_place place)
  slot_shown other unlisted =
      behind_constant other
      ∙ ap (λ (b : Bool). if b then shown_word (slice_index machinery.constants (cast_unsigned w32 place.offset)) else shown_slot stands words pairs (word_place place)) unlisted
