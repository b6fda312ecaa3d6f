-- The values that lines compute, in both meanings: integers, `getelementptr`, loads, comparisons of pointers.
use Rattle.std.proofs.Common.{◌≡◌, ℕ, zero, suc, ◌+◌, ◌<◌, ◌%◌, ◌^◌, Bool, true, false, List, [], ◌∷◌, length, set, map, refl, sym, ap, ◌∙◌, subst, arith, Some}
use Rattle.std.specs.Prelude.{slice_get}
use Rattle.std.specs.Option.{option_map_or}
use Rattle.std.proofs.lemmas.Bool.{true≢false}
use Rattle.std.proofs.lemmas.Option.{slice_get_within}
use Rattle.ir_ast.specs.declared.types.Ty.{Ty}
use Rattle.ir_ast.specs.declared.ops.Operand.{Operand}
use Rattle.ir_ast.specs.declared.ops.Operand.TheVariants as operands
use Rattle.ir_ast.specs.Types.{is_pointer}
use Rattle.ir_ast.specs.Faults.TypeClash.{Fits}
use Rattle.ir_ast.specs.Objects.{Pointer, Datum, number, pointer, advanced}
use Rattle.moving_heap.specs.declared.stands.Stand.{Stand}
use Rattle.moving_heap.specs.Heaps.{of_number}
use Rattle.object_meaning.specs.Registers.{value, operand, number_in, pointer_in}
use Rattle.pair_facts.specs.declared.bases.Base.{Base}
use Rattle.pair_facts.specs.declared.bases.Base.TheVariants.{Named}
use Rattle.pair_facts.specs.Lines.{operand_at}
use Rattle.pair_facts.specs.Pairs.{Pairs, own_pairs, with_own, without}
use Rattle.machine_meaning.specs.Words.{worded_operand}
use Rattle.machine_meaning.specs.Relations.{word_in, IsPair}
use Rattle.moves_unseen.specs.Objects.{IsBase}
use Rattle.moves_unseen.specs.Frames.{AreNumbers, AreWords}
use Rattle.moves_unseen.proofs.RegisterLaws.{apart_of, alike, given_value, given_word, given_words, other_value, other_word, word_of_value}

-- ---- operands

pub value_at : (registers : List Datum) (from : List Operand) (place : ℕ) → operand registers from place ≡ value registers (operand_at from place)
value_at registers [] place = refl
value_at registers (first ∷ from) zero = refl
value_at registers (first ∷ from) (suc place) = value_at registers from place

pub word_at : (words : List ℕ) (from : List Operand) (place : ℕ) → number_in (operand (map number words) (map worded_operand from) place) ≡ word_in words (operand_at from place)
word_at words [] place = refl
word_at words (first ∷ from) zero = refl
word_at words (first ∷ from) (suc place) = word_at words from place

-- what isn't a pointer is the same
pub same_number : (types : List Ty) (registers : List Datum) (words : List ℕ) → AreNumbers types registers words → (from : Operand) (ty : Ty) → Fits types from ty → is_pointer ty ≡ false
    → word_in words from ≡ number_in (value registers from)
same_number types registers words are (operands.Value at) ty fits plain = word_of_value words at.0 ∙ are at.0 ty fits plain
same_number types registers words are (operands.Int literal) ty fits plain = refl
same_number types registers words are operands.Null ty fits plain = absurd (true≢false (sym (ap is_pointer fits) ∙ plain))
same_number types registers words are (operands.Fun func) ty fits plain = refl

-- ---- values with pairs

pub pair_of_base : (stands : List Stand) (to : Pointer) (held : ℕ) → IsBase stands to held → IsPair stands to to held held
pair_of_base stands to held base = record { heap = base.heap; same = refl; first = base.first; derived_is = base.word; base_is = base.word }

pub base_of_pair : (stands : List Stand) (to : Pointer) (held : ℕ) → IsPair stands to to held held → IsBase stands to held
base_of_pair stands to held pair = record { heap = pair.heap; first = pair.first; word = pair.derived_is }

-- so many bytes further
advanced_pair : (stands : List Stand) (derived base : Pointer) (word base_word by : ℕ) → IsPair stands derived base word base_word
    → IsPair stands (advanced derived by) base ((word + by) % 2 ^ 64) base_word
advanced_pair stands derived base word base_word by pair =
    let start = option_map_or (λ (stand : Stand). stand.address) (of_number stands derived.object) 0 in
    let was : word ≡ (start + derived.offset) % 2 ^ 64 = pair.derived_is in
    let now : (word + by) % 2 ^ 64 ≡ (start + (derived.offset + by) % 2 ^ 64) % 2 ^ 64 = omega arith in
    record {
      heap = record { object = pair.heap.object; offset = omega arith };
      same = pair.same;
      first = pair.first;
      derived_is = now;
      base_is = pair.base_is;
    }

module _ (stands : List Stand) (types : List Ty) (pairs : Pairs) (registers : List Datum) (words : List ℕ) (given : ℕ) (ty : Ty)
    (are : AreWords stands types pairs registers words) (typed : slice_get types given ≡ Some ty) where
  -- a value that has no pairs and isn't a pointer
  pub number_given : (datum : Datum) (word : ℕ) → word ≡ number_in datum → (own : Base → Bool) → ((base : Operand) → own (Named base) ≡ false)
      → AreWords stands types (with_own given own pairs) (set registers given datum) (set words given word)
  number_given datum word same own none =
      given_words stands types pairs registers words given ty datum word are typed own (λ plain. same)
      (λ base stood. absurd (true≢false (sym stood ∙ none base)))

  -- `getelementptr` has the bases of the pointer from which it goes
  pub advanced_given : (from : Operand) (by : ℕ) → is_pointer ty ≡ true
      → AreWords stands types (with_own given (without given pairs from) pairs) (set registers given (pointer (advanced (pointer_in (value registers from)) by)))
      (set words given ((word_in words from + by) % 2 ^ 64))
  advanced_given from by managed =
      given_words stands types pairs registers words given ty (pointer (advanced (pointer_in (value registers from)) by)) ((word_in words from + by) % 2 ^ 64) are typed
      (without given pairs from) (λ plain. absurd (true≢false (sym managed ∙ plain)))
      (λ base stood.
      let apart = apart_of pairs given from base stood in
      let datum = pointer (advanced (pointer_in (value registers from)) by) in
      let word = (word_in words from + by) % 2 ^ 64 in
      alike stands (pointer (advanced (pointer_in (value registers from)) by)) (pointer (advanced (pointer_in (value registers from)) by))
      (value registers base) (value (set registers given (pointer (advanced (pointer_in (value registers from)) by))) base)
      ((word_in words from + by) % 2 ^ 64) ((word_in words from + by) % 2 ^ 64)
      (word_in words base) (word_in (set words given ((word_in words from + by) % 2 ^ 64)) base)
      refl (sym (other_value registers given (pointer (advanced (pointer_in (value registers from)) by)) base apart.base_apart))
      refl (sym (other_word words given ((word_in words from + by) % 2 ^ 64) base apart.base_apart))
      (advanced_pair stands (pointer_in (value registers from)) (pointer_in (value registers base)) (word_in words from) (word_in words base) by (are.pointers from base apart.stood)))

  -- a pointer that is its own base, as a load or a call gives it
  pub base_given : (datum : Datum) (word : ℕ) → is_pointer ty ≡ true → IsBase stands (pointer_in datum) word
      → AreWords stands types (with_own given (own_pairs given) pairs) (set registers given datum) (set words given word)
  base_given datum word managed base_is =
      given_words stands types pairs registers words given ty datum word are typed (own_pairs given) (λ plain. absurd (true≢false (sym managed ∙ plain)))
      (λ base stood.
      let in_registers : given < length registers = subst (λ (n : ℕ). given < n) (sym are.registers_count) (slice_get_within types given ty typed) in
      let in_words : given < length words = subst (λ (n : ℕ). given < n) (sym are.words_count) (slice_get_within types given ty typed) in
      alike stands datum datum datum (value (set registers given datum) base) word word word (word_in (set words given word) base)
      refl (sym (given_value registers given datum base stood in_registers)) refl (sym (given_word words given word base stood in_words))
      (pair_of_base stands (pointer_in datum) word base_is))
