-- Numbers of an input.
use Rattle.std.proofs.Common.{◌≡◌, refl, ap, sym, subst, ◌∙◌, ℕ, ◌<◌, ◌≤◌, ◌^◌, List, [], ◌∷◌, length, arith, None, Some, Option, lit<}
use Rattle.std.specs.Prelude.{ℤ, pos, neg_ℤ, FitsSigned}
use Rattle.std.specs.Int.{w64}
use Rattle.std.specs.Option.{MatchOption, SomeIff}
use Rattle.std.specs.Str.Parse.{AllDigits, digits_value}
use Rattle.std.proofs.lemmas.Int.{ints}
use Rattle.std.proofs.lemmas.Option.{none-some}
use Rattle.std.proofs.lemmas.Str.Parse.{numerals_by_value, tells_digits, digits_value_short}
use Rattle.sp_text.specs.Bytes.{minus}
use Rattle.move_plan.specs.Decoded.{numeral_of}
use Rattle.move_plan.specs.InputNumbers.{AreDigits, Spells, positive, negative, IsNumber}
use Rattle.move_plan.proofs.NumberLemmas.{numeral-sound, numeral-complete}

-- a few digits are what the reader takes for a number, and spell its value
pub few_digits : (ds : List ℕ) (r : Option ℕ) → r ≡ numeral_of ds → length ds ≤ 19 → SomeIff r (AreDigits ds) (digits_value 10 ds)
few_digits [] None e few = λ are. omega (arith, are.each.0)
few_digits [] (Some m) e few = absurd (cc)
few_digits (d ∷ ds) None e few = λ are.
    let short : digits_value 10 (d ∷ ds) < 10 ^ 19 = digits_value_short (numerals_by_value (AllDigits 10) tells_digits) (d ∷ ds) 19 are.each.1 are.few in
    let bound : 10 ^ 19 < 2 ^ 64 = lit< tt in
    none-some (digits_value 10 (d ∷ ds)) (e ∙ numeral-complete 0 (d ∷ ds) are.each.1 (omega (arith, short, bound)))
few_digits (d ∷ ds) (Some m) e few =
    let spelled = numeral-sound 0 m (d ∷ ds) (sym e) in
    (record { each = (omega arith, spelled.digits); few = few }, spelled.value)

neg-fits : (m : ℕ) → m ≤ 2 ^ 63 → FitsSigned w64 (neg_ℤ (pos m))
neg-fits m small = search (arith, ints)

fits-neg : (m : ℕ) → FitsSigned w64 (neg_ℤ (pos m)) → m ≤ 2 ^ 63
fits-neg m fits = omega (arith, ints, fits)

-- a `-` is no digit
pub minus_apart : (digits : List ℕ) → ¬ AreDigits (minus ∷ digits)
minus_apart digits are = omega (arith, are.each.1.0)

signed_value : (digits : List ℕ) (n : ℤ) → Spells (minus ∷ digits) n → AreDigits digits × (n ≡ neg_ℤ (pos (digits_value 10 digits)))
signed_value digits n (positive are value) = absurd (minus_apart digits are)
signed_value digits n (negative others is are value) =
    let same : others ≡ digits = cc in
    (subst (λ (ds : List ℕ). AreDigits ds) same are, value ∙ ap (λ ds. neg_ℤ (pos (digits_value 10 ds))) same)

-- the answer of the reader behind a `-`
signed_number : (digits : List ℕ) (m : ℕ) (r : Option ℤ) → AreDigits digits → m ≡ digits_value 10 digits → SomeIff r (m ≤ 2 ^ 63) (neg_ℤ (pos m))
    → MatchOption r ((n : ℤ) → ¬ IsNumber (minus ∷ digits) n) (IsNumber (minus ∷ digits))
signed_number digits m (Some z) are value is = record {
  spelled = negative digits refl are (is.1 ∙ ap (λ k. neg_ℤ (pos k)) value);
  fits = subst (λ (y : ℤ). FitsSigned w64 y) (sym is.1) (neg-fits m is.0);
}
signed_number digits m None are value not = λ n number.
    let is = signed_value digits n number.spelled in
    not (fits-neg m (subst (λ (y : ℤ). FitsSigned w64 y) (is.1 ∙ ap (λ k. neg_ℤ (pos k)) (sym value)) number.fits))

-- the same of a word whose first byte is a `-`
pub minus_number : (word digits : List ℕ) (first m : ℕ) (r : Option ℤ) → word ≡ first ∷ digits → first ≡ minus → AreDigits digits → m ≡ digits_value 10 digits
    → SomeIff r (m ≤ 2 ^ 63) (neg_ℤ (pos m)) → MatchOption r ((n : ℤ) → ¬ IsNumber word n) (IsNumber word)
minus_number word digits first m r are is digit value by = rw (are, is) (signed_number digits m r digit value by)
