-- A value that a line gives: the registers of the target meaning and the words of the machine after it.
use Rattle.std.proofs.Common.{◌≡◌, ℕ, ◌<◌, Bool, true, false, List, length, get_or, set, map, refl, sym, ap, ◌∙◌, subst, arith, Option, Some, inl, inr}
use Rattle.std.specs.Prelude.{slice_get, if◌then◌else◌}
use Rattle.std.proofs.lemmas.Bool.{cases_eq, true≢false}
use Rattle.std.proofs.lemmas.Bool.Decides.{nat_tests}
use Rattle.std.proofs.lemmas.List.{get_or-set_same, get_or-set_other, length-set}
use Rattle.std.proofs.lemmas.Option.{slice_get_within}
use Rattle.std.proofs.Math.ListN.{get_or-map}
use Rattle.ir_ast.specs.declared.types.Ty.{Ty}
use Rattle.ir_ast.specs.declared.ops.Operand.{Operand}
use Rattle.ir_ast.specs.declared.ops.Operand.TheVariants as operands
use Rattle.ir_ast.specs.Types.{is_pointer}
use Rattle.ir_ast.specs.Objects.{Datum, number}
use Rattle.moving_heap.specs.declared.stands.Stand.{Stand}
use Rattle.object_meaning.specs.Registers.{nothing, value, number_in, pointer_in}
use Rattle.pair_facts.specs.declared.bases.Base.{Base}
use Rattle.pair_facts.specs.declared.bases.Base.TheVariants.{Named}
use Rattle.pair_facts.specs.Pairs.{Pairs, is_named, with_own, without}
use Rattle.machine_meaning.specs.Relations.{word_in, IsPair}
use Rattle.moves_unseen.specs.Frames.{AreNumbers, AreWords}

-- ---- operands

pub word_of_value : (words : List ℕ) (at : ℕ) → number_in (get_or (map number words) at nothing) ≡ get_or words at 0
word_of_value words at = ap number_in (get_or-map number words at 0)

-- a value that isn't the one that is given is what it was
pub other_value : (registers : List Datum) (given : ℕ) (datum : Datum) (operand : Operand) → is_named given operand ≡ false
    → value (set registers given datum) operand ≡ value registers operand
other_value registers given datum (operands.Value at) other =
    get_or-set_other registers given at.0 datum nothing (λ same. grind (arith, nat_tests))
other_value registers given datum (operands.Int literal) other = refl
other_value registers given datum operands.Null other = refl
other_value registers given datum (operands.Fun func) other = refl

pub other_word : (words : List ℕ) (given word : ℕ) (operand : Operand) → is_named given operand ≡ false → word_in (set words given word) operand ≡ word_in words operand
other_word words given word (operands.Value at) other =
    word_of_value (set words given word) at.0 ∙ (get_or-set_other words given at.0 word 0 (λ same. grind (arith, nat_tests)) ∙ sym (word_of_value words at.0))
other_word words given word (operands.Int literal) other = refl
other_word words given word operands.Null other = refl
other_word words given word (operands.Fun func) other = refl

pub given_value : (registers : List Datum) (given : ℕ) (datum : Datum) (operand : Operand) → is_named given operand ≡ true → given < length registers
    → value (set registers given datum) operand ≡ datum
given_value registers given datum (operands.Value at) own within =
    let same : at.0 ≡ given = grind (arith, nat_tests) in
    ap (λ (k : ℕ). get_or (set registers given datum) k nothing) same ∙ get_or-set_same registers given datum nothing within
given_value registers given datum (operands.Int literal) own within = cc
given_value registers given datum operands.Null own within = cc
given_value registers given datum (operands.Fun func) own within = cc

pub given_word : (words : List ℕ) (given word : ℕ) (operand : Operand) → is_named given operand ≡ true → given < length words → word_in (set words given word) operand ≡ word
given_word words given word (operands.Value at) own within =
    let same : at.0 ≡ given = grind (arith, nat_tests) in
    word_of_value (set words given word) at.0 ∙ (ap (λ (k : ℕ). get_or (set words given word) k 0) same ∙ get_or-set_same words given word 0 within)
given_word words given word (operands.Int literal) own within = cc
given_word words given word operands.Null own within = cc
given_word words given word (operands.Fun func) own within = cc

-- ---- the registers after a line that gives a value

-- a pair of values that are these
pub alike : (stands : List Stand) (derived other_derived base other_base : Datum) (word other_word base_word other_base_word : ℕ)
    → derived ≡ other_derived → base ≡ other_base → word ≡ other_word → base_word ≡ other_base_word
    → IsPair stands (pointer_in derived) (pointer_in base) word base_word → IsPair stands (pointer_in other_derived) (pointer_in other_base) other_word other_base_word
alike stands derived other_derived base other_base word other_word base_word other_base_word one two three four pair =
    subst (λ (d : Datum). IsPair stands (pointer_in d) (pointer_in other_base) other_word other_base_word) one
    (subst (λ (b : Datum). IsPair stands (pointer_in derived) (pointer_in b) other_word other_base_word) two
    (subst (λ (w : ℕ). IsPair stands (pointer_in derived) (pointer_in base) w other_base_word) three
    (subst (λ (w : ℕ). IsPair stands (pointer_in derived) (pointer_in base) word w) four pair)))

-- neither has the name of the value
pub record IsApart (pairs : Pairs) (given : ℕ) (derived base : Operand) : Type 0 where
  pub derived_apart : is_named given derived ≡ false
  pub base_apart : is_named given base ≡ false
  pub stood : pairs derived (Named base) ≡ true

pub apart_of : (pairs : Pairs) (given : ℕ) (derived base : Operand) → without given pairs derived (Named base) ≡ true → IsApart pairs given derived base
apart_of pairs given derived base stood = by (is_named given derived) (is_named given base) refl refl
  where
    by : (one two : Bool) → is_named given derived ≡ one → is_named given base ≡ two → IsApart pairs given derived base
    by true two first second =
        absurd (true≢false (sym stood ∙ ap (λ (b : Bool). if b then false else (if is_named given base then false else pairs derived (Named base))) first))
    by false true first second =
        absurd (true≢false (sym stood ∙ (ap (λ (b : Bool). if b then false else (if is_named given base then false else pairs derived (Named base))) first
        ∙ ap (λ (b : Bool). if b then false else pairs derived (Named base)) second)))
    by false false first second = record {
      derived_apart = first;
      base_apart = second;
      stood = sym (ap (λ (b : Bool). if b then false else (if is_named given base then false else pairs derived (Named base))) first
          ∙ ap (λ (b : Bool). if b then false else pairs derived (Named base)) second) ∙ stood;
    }

the_type : (one other : Ty) (found : Option Ty) → found ≡ Some one → found ≡ Some other → one ≡ other
the_type one other found first second = cc

module _ (stands : List Stand) (types : List Ty) (pairs : Pairs) (registers : List Datum) (words : List ℕ) (given : ℕ) (ty : Ty) (datum : Datum) (word : ℕ)
    (are : AreWords stands types pairs registers words) (typed : slice_get types given ≡ Some ty) where
  in_registers : given < length registers
  in_registers = subst (λ (n : ℕ). given < n) (sym are.registers_count) (slice_get_within types given ty typed)

  in_words : given < length words
  in_words = subst (λ (n : ℕ). given < n) (sym are.words_count) (slice_get_within types given ty typed)

  numbers_after : (is_pointer ty ≡ false → word ≡ number_in datum) → AreNumbers types (set registers given datum) (set words given word)
  numbers_after same_number at other is plain =
      elim (cases_eq at given) [
        | inl same ↦ (
            let type_is : ty ≡ other = the_type ty other (slice_get types given) typed (ap (slice_get types) (sym same) ∙ is) in
            ap (λ (k : ℕ). get_or (set words given word) k 0) same
            ∙ (get_or-set_same words given word 0 in_words
            ∙ (same_number (ap is_pointer type_is ∙ plain)
            ∙ sym (ap (λ (k : ℕ). number_in (get_or (set registers given datum) k nothing)) same
            ∙ ap number_in (get_or-set_same registers given datum nothing in_registers)))))
        | inr differ ↦ (
            get_or-set_other words given at word 0 differ
            ∙ (are.numbers at other is plain ∙ sym (ap number_in (get_or-set_other registers given at datum nothing differ))))
      ]

  -- pairs without the name of the value stand as before
  pub kept_pair : (derived base : Operand) → without given pairs derived (Named base) ≡ true
      → IsPair stands (pointer_in (value (set registers given datum) derived)) (pointer_in (value (set registers given datum) base)) (word_in (set words given word) derived) (word_in (set words given word) base)
  kept_pair derived base stood =
      let apart = apart_of pairs given derived base stood in
      alike stands (value registers derived) (value (set registers given datum) derived) (value registers base) (value (set registers given datum) base)
      (word_in words derived) (word_in (set words given word) derived) (word_in words base) (word_in (set words given word) base)
      (sym (other_value registers given datum derived apart.derived_apart)) (sym (other_value registers given datum base apart.base_apart))
      (sym (other_word words given word derived apart.derived_apart)) (sym (other_word words given word base apart.base_apart))
      (are.pointers derived base apart.stood)

  -- a value is given with pairs of its own
  pub given_words : (own : Base → Bool) → (is_pointer ty ≡ false → word ≡ number_in datum)
      → ((base : Operand) → own (Named base) ≡ true
      → IsPair stands (pointer_in datum) (pointer_in (value (set registers given datum) base)) word (word_in (set words given word) base))
      → AreWords stands types (with_own given own pairs) (set registers given datum) (set words given word)
  given_words own same_number pointer = record {
    registers_count = length-set registers given datum ∙ are.registers_count;
    words_count = length-set words given word ∙ are.words_count;
    numbers = numbers_after same_number;
    pointers = λ derived base stood. by derived base (is_named given derived) refl stood;
  }
    where
      by : (derived base : Operand) (one : Bool) → is_named given derived ≡ one → with_own given own pairs derived (Named base) ≡ true
          → IsPair stands (pointer_in (value (set registers given datum) derived)) (pointer_in (value (set registers given datum) base)) (word_in (set words given word) derived) (word_in (set words given word) base)
      by derived base true first stood =
          alike stands datum (value (set registers given datum) derived) (value (set registers given datum) base) (value (set registers given datum) base)
          word (word_in (set words given word) derived) (word_in (set words given word) base) (word_in (set words given word) base)
          (sym (given_value registers given datum derived first in_registers)) refl (sym (given_word words given word derived first in_words)) refl
          (pointer base (sym (ap (λ (b : Bool). if b then own (Named base) else without given pairs derived (Named base)) first) ∙ stood))
      by derived base false first stood =
          kept_pair derived base (sym (ap (λ (b : Bool). if b then own (Named base) else without given pairs derived (Named base)) first) ∙ stood)
