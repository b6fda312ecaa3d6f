-- Pointers with pairs are equal exactly where their words are.
use Rattle.std.proofs.Common.{◌≡◌, ℕ, suc, ◌+◌, ◌<◌, ◌≤◌, ◌%◌, ◌^◌, ◌==◌, ◌&&◌, Bool, true, false, List, length, get_or, refl, sym, ap, ◌∙◌, arith, eqb, inl, inr}
use Rattle.std.specs.Option.{option_map_or}
use Rattle.std.proofs.lemmas.Bool.{cases_eq, eq-eqb, ne_eqb}
use Rattle.ir_ast.specs.Objects.{Pointer}
use Rattle.moving_heap.specs.declared.stands.Stand.{Stand}
use Rattle.moving_heap.specs.Heaps.{of_number}
use Rattle.moving_heap.specs.Settled.{AreSettled}
use Rattle.moving_heap.proofs.PlaceLemmas.{different}
use Rattle.object_meaning.specs.Comparisons.{same_pointer}
use Rattle.machine_meaning.specs.Relations.{IsPair}
use Rattle.machine_meaning.proofs.AddressLaws.{addr_none, none_or}
use Rattle.moves_unseen.proofs.AddressedLaws.{base_address, blank}

module _ (stands : List Stand) (are : AreSettled stands) (one one_base : Pointer) (word base_word : ℕ) (pair : IsPair stands one one_base word base_word) where
  null_base : one.object ≡ 0 → base_word ≡ 0
  null_base none =
      let small : one_base.offset < 2 ^ 64 = omega (arith, pair.first) in
      pair.base_is ∙ (addr_none stands one_base (pair.same ∙ none) small ∙ pair.first)

  some_base : (place : ℕ) → one.object ≡ suc place → base_word ≡ (get_or stands place blank).address
  some_base place is =
      base_address stands are place (omega (arith, pair.heap.object, is)) one one_base word base_word is pair

  high_base : (place : ℕ) → one.object ≡ suc place → 65536 ≤ base_word
  high_base place is =
      let within : place < length stands = omega (arith, pair.heap.object, is) in
      let address = some_base place is in
      let low = (are.each place blank within).low in
      omega arith

module _ (stands : List Stand) (are : AreSettled stands) (one one_base two two_base : Pointer) (word base_word other_word other_base_word : ℕ)
    (first : IsPair stands one one_base word base_word) (second : IsPair stands two two_base other_word other_base_word) where
  -- the words of bases tell objects apart
  same_object : base_word ≡ other_base_word → one.object ≡ two.object
  same_object same =
      elim (none_or one.object) [
        | inl none ↦ elim (none_or two.object) [
          | inl also ↦ (none ∙ sym also)
          | inr some ↦ (
              let zero_word = null_base stands are one one_base word base_word first none in
              let high = high_base stands are two two_base other_word other_base_word second some.0 some.1 in
              absurd (let never : ⊥ = omega arith in never))
        ]
        | inr some ↦ elim (none_or two.object) [
          | inl none ↦ (
              let zero_word = null_base stands are two two_base other_word other_base_word second none in
              let high = high_base stands are one one_base word base_word first some.0 some.1 in
              absurd (let never : ⊥ = omega arith in never))
          | inr other ↦ elim (cases_eq some.0 other.0) [
            | inl alike ↦ (some.1 ∙ (ap suc alike ∙ sym other.1))
            | inr differ ↦ (
                let low : some.0 < length stands = omega (arith, first.heap.object, some.1) in
                let other_low : other.0 < length stands = omega (arith, second.heap.object, other.1) in
                absurd (different stands are some.0 other.0 blank low other_low differ
                (sym (some_base stands are one one_base word base_word first some.0 some.1)
                ∙ (same ∙ some_base stands are two two_base other_word other_base_word second other.0 other.1))))
          ]
        ]
      ]

  same_base : one.object ≡ two.object → base_word ≡ other_base_word
  same_base same =
      elim (none_or one.object) [
        | inl none ↦ (null_base stands are one one_base word base_word first none ∙ sym (null_base stands are two two_base other_word other_base_word second (sym same ∙ none)))
        | inr some ↦ (some_base stands are one one_base word base_word first some.0 some.1
            ∙ sym (some_base stands are two two_base other_word other_base_word second some.0 (sym same ∙ some.1)))
      ]

  same_word : one.object ≡ two.object → eqb word other_word ≡ eqb one.offset two.offset
  same_word same =
      let start = option_map_or (λ (stand : Stand). stand.address) (of_number stands one.object) 0 in
      let one_word : word ≡ (start + one.offset) % 2 ^ 64 = first.derived_is in
      let two_word : other_word ≡ (start + two.offset) % 2 ^ 64 =
      second.derived_is ∙ ap (λ (o : ℕ). (option_map_or (λ (stand : Stand). stand.address) (of_number stands o) 0 + two.offset) % 2 ^ 64) (sym same) in
      let small = first.heap.offset in
      let other_small = second.heap.offset in
      elim (cases_eq one.offset two.offset) [
        | inl alike ↦ (eq-eqb word other_word (let equal : word ≡ other_word = omega arith in equal) ∙ sym (eq-eqb one.offset two.offset alike))
        | inr differ ↦ (
            ne_eqb word other_word (λ equal. differ (let back : one.offset ≡ two.offset = omega arith in back)) ∙ sym (ne_eqb one.offset two.offset differ))
      ]

  -- the machine's comparison of two pairs, by the words of their bases and their own, is that of the pointers
  pub pairs_compared : (base_word == other_base_word) && (word == other_word) ≡ same_pointer one two
  pairs_compared =
      elim (cases_eq one.object two.object) [
        | inl same ↦ (
            ap (λ (b : Bool). b && eqb word other_word) (eq-eqb base_word other_base_word (same_base same))
            ∙ (same_word same ∙ sym (ap (λ (b : Bool). b && eqb one.offset two.offset) (eq-eqb one.object two.object same))))
        | inr differ ↦ (
            ap (λ (b : Bool). b && eqb word other_word) (ne_eqb base_word other_base_word (λ same. differ (same_object same)))
            ∙ sym (ap (λ (b : Bool). b && eqb one.offset two.offset) (ne_eqb one.object two.object differ)))
      ]

twice : (b : Bool) → b && b ≡ b
twice true = refl
twice false = refl

-- pointers that are their own bases are compared by their words alone
pub bases_compared : (stands : List Stand) → AreSettled stands → (one two : Pointer) (word other_word : ℕ) → IsPair stands one one word word → IsPair stands two two other_word other_word
    → word == other_word ≡ same_pointer one two
bases_compared stands are one two word other_word first second =
    sym (twice (eqb word other_word)) ∙ pairs_compared stands are one one two two word word other_word other_word first second
