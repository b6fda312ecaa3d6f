-- Numbers in decimals.
use Rattle.std.proofs.Common.{◌≡◌, refl, ap, sym, ◌∙◌, ℕ, ◌+◌, ◌*◌, ◌<◌, ◌≤◌, ◌^◌, true, false, List, [], ◌∷◌, length, get_or, drop, arith, add-one, drop-cons, None, Some, ltb, inl, inr, lit<}
use Rattle.std.specs.Prelude.{◌&&◌, ◌==◌, option_and_then}
use Rattle.std.specs.Char.{digit_value}
use Rattle.std.specs.Fmt.{decimal}
use Rattle.std.specs.Str.Parse.{AllDigits, digits_value, digits_value_after}
use Rattle.std.proofs.lemmas.Bool.{and_parts, cases_eq, cases_lt, eq-eqb, ne_eqb}
use Rattle.std.proofs.lemmas.Bool.Decides.{nat_tests}
use Rattle.std.proofs.lemmas.Fmt.{decimal_is_IsNumeral, decimal-digits_value, first_decimal, decimal_digit}
use Rattle.std.proofs.lemmas.List.{drop_all}
use Rattle.std.proofs.lemmas.Option.{cond_some, none-some, option_and_then_some, same_Some}
use Rattle.std.proofs.lemmas.Str.Parse.{numerals_by_value, tells_digits}
use Rattle.move_plan.specs.Decoded.{count_of, number_of, numeral_of, numeral_after, positive, with_digit}

-- one digit more
pub numeral-step : (n i : ℕ) (ds : List ℕ) → i < length ds
    → numeral_after n (drop i ds) ≡ option_and_then (λ m. numeral_after m (drop (i + 1) ds)) (with_digit n (get_or ds i 0))
unfolding numeral_after
numeral-step n i ds lt = rw (add-one, drop-cons ds i 0) refl

pub numeral-more : (n m i : ℕ) (ds : List ℕ) → i < length ds → Some m ≡ with_digit n (get_or ds i 0)
    → numeral_after n (drop i ds) ≡ numeral_after m (drop (i + 1) ds)
numeral-more n m i ds lt digit = numeral-step n i ds lt ∙ ap (option_and_then (λ k. numeral_after k (drop (i + 1) ds))) (sym digit)

pub numeral-stops : (n i : ℕ) (ds : List ℕ) → i < length ds → None ≡ with_digit n (get_or ds i 0) → numeral_after n (drop i ds) ≡ None
numeral-stops n i ds lt digit = numeral-step n i ds lt ∙ ap (option_and_then (λ k. numeral_after k (drop (i + 1) ds))) (sym digit)

pub numeral-done : (n i : ℕ) (ds : List ℕ) → length ds ≤ i → numeral_after n (drop i ds) ≡ Some n
unfolding numeral_after
numeral-done n i ds le = rw (drop_all i ds le) refl

pub numeral_of-some : (ds : List ℕ) → 0 < length ds → numeral_of ds ≡ numeral_after 0 ds
numeral_of-some [] some = absurd (omega arith)
numeral_of-some (d ∷ ds) some = refl

-- a number with digits behind it is no smaller
digits_ge : (n : ℕ) (ds : List ℕ) → n ≤ digits_value_after 10 n ds
digits_ge n [] = omega arith
digits_ge n (c ∷ cs) = omega (arith, digits_ge (n * 10 + digit_value c) cs)

-- what digits behind others spell
pub record IsSpelledAfter (n : ℕ) (ds : List ℕ) (m : ℕ) : Type 0 where
  pub digits : AllDigits 10 ds
  pub value : m ≡ digits_value_after 10 n ds
  pub fits : n < 2 ^ 64 → m < 2 ^ 64

fits-from : (n c k : ℕ) → with_digit n c ≡ Some k → (digit_value c < 10) × (k ≡ n * 10 + digit_value c) × (k < 2 ^ 64)
fits-from n c k e =
    let p = cond_some (ltb (digit_value c) 10 && ltb (n * 10 + digit_value c) (2 ^ 64)) (n * 10 + digit_value c) k e in
    let tests = and_parts (ltb (digit_value c) 10) (ltb (n * 10 + digit_value c) (2 ^ 64)) p.0 in
    (grind (arith, nat_tests, tests.0), sym p.1, grind (arith, nat_tests, tests.1, p.1))

pub numeral-sound : (n m : ℕ) (ds : List ℕ) → numeral_after n ds ≡ Some m → IsSpelledAfter n ds m
unfolding numeral_after
numeral-sound n m [] e = record { digits = tt; value = sym (same_Some n m e); fits = λ small. omega (arith, same_Some n m e) }
numeral-sound n m (c ∷ cs) e = option_and_then_some (λ k. numeral_after k cs) (with_digit n c) m e (λ k first more.
    let one = fits-from n c k first in
    let rest = numeral-sound k m cs more in
    record {
      digits = (one.0, rest.digits);
      value = rest.value ∙ ap (λ x. digits_value_after 10 x cs) one.1;
      fits = λ small. rest.fits one.2;
    })

pub numeral-complete : (n : ℕ) (ds : List ℕ) → AllDigits 10 ds → digits_value_after 10 n ds < 2 ^ 64 → numeral_after n ds ≡ Some (digits_value_after 10 n ds)
unfolding numeral_after
numeral-complete n [] digits fits = refl
numeral-complete n (c ∷ cs) digits fits =
    let small : n * 10 + digit_value c < 2 ^ 64 = omega (arith, digits_ge (n * 10 + digit_value c) cs) in
    let is_digit : ltb (digit_value c) 10 ≡ true = grind (arith, nat_tests, digits.0) in
    let is_small : ltb (n * 10 + digit_value c) (2 ^ 64) ≡ true = grind (arith, nat_tests, small) in
    rw (is_digit, is_small) (numeral-complete (n * 10 + digit_value c) cs digits.1 fits)

-- ---- numbers of a plan, which have no leading zero

abbrev NoLeadingZero : List ℕ → Type 0
NoLeadingZero ds = get_or ds 0 0 ≡ 48 → length ds ≡ 1

number_of-plain : (ds : List ℕ) → 0 < length ds → NoLeadingZero ds → number_of ds ≡ numeral_after 0 ds
number_of-plain [] some plain = absurd (omega arith)
number_of-plain (c ∷ []) some plain = refl
number_of-plain (c ∷ d ∷ more) some plain =
    let apart : (c == 48) ≡ false = ne_eqb c 48 (λ is. omega (arith, plain is)) in
    rw apart refl

number_of-parts : (ds : List ℕ) (n : ℕ) → number_of ds ≡ Some n → (0 < length ds) × NoLeadingZero ds × (numeral_after 0 ds ≡ Some n)
number_of-parts [] n e = absurd (cc)
number_of-parts (c ∷ []) n e = (omega arith, λ _. refl, e)
number_of-parts (c ∷ d ∷ more) n e = elim (cases_eq c 48) [
  | inl is ↦ (let zero : (c == 48) ≡ true = eq-eqb c 48 is in absurd (none-some n (rw zero at e)))
  | inr isnt ↦ (let apart : (c == 48) ≡ false = ne_eqb c 48 isnt in (omega arith, λ is. absurd (isnt is), rw apart at e))
]

-- a word's number is the one of which it is the spelling in decimals
pub number_of-sound : (word : List ℕ) (n : ℕ) → number_of word ≡ Some n → (word ≡ decimal n) × (n < 2 ^ 64)
number_of-sound word n e =
    let parts = number_of-parts word n e in
    let spelled = numeral-sound 0 n word parts.2 in
    let small : n < 2 ^ 64 = spelled.fits (lit< tt) in
    let same : n ≡ digits_value 10 word = spelled.value in
    let fits : digits_value 10 word < 2 ^ 64 = omega (arith, same, small) in
    (sym (rw same (decimal-digits_value (numerals_by_value (AllDigits 10) tells_digits) word spelled.digits parts.0 parts.1 fits)), small)

pub number_of-decimal : (n : ℕ) → n < 2 ^ 64 → number_of (decimal n) ≡ Some n
number_of-decimal n small =
    let is = decimal_is_IsNumeral n small in
    let fits : digits_value 10 (decimal n) < 2 ^ 64 = omega (arith, is.1, small) in
    number_of-plain (decimal n) is.0.0 (plain n small) ∙ numeral-complete 0 (decimal n) is.0.1 fits ∙ ap (λ k. Some k) is.1
  where
    plain : (n : ℕ) → n < 2 ^ 64 → NoLeadingZero (decimal n)
    plain n small = λ zero. elim (cases_lt 0 n) [
      | inl some ↦ absurd (omega (arith, first_decimal n some small, zero))
      | inr none ↦ ap length (decimal_digit n (omega arith))
    ]

positive-sound : (n m : ℕ) → positive n ≡ Some m → (n ≡ m) × (1 ≤ m)
positive-sound n m e = elim (cases_eq n 0) [
  | inl is ↦ (let zero : (n == 0) ≡ true = eq-eqb n 0 is in absurd (none-some m (rw zero at e)))
  | inr isnt ↦ (let apart : (n == 0) ≡ false = ne_eqb n 0 isnt in
      let same : n ≡ m = same_Some n m (rw apart at e) in (same, omega arith))
]

pub count_of-sound : (word : List ℕ) (n : ℕ) → count_of word ≡ Some n → (word ≡ decimal n) × (1 ≤ n) × (n < 2 ^ 64)
count_of-sound word n e = option_and_then_some positive (number_of word) n e (λ m number some.
    let is = number_of-sound word m number in
    let same = positive-sound m n some in
    (is.0 ∙ ap decimal same.0, same.1, omega (arith, is.1, same.0)))

pub count_of-decimal : (n : ℕ) → 1 ≤ n → n < 2 ^ 64 → count_of (decimal n) ≡ Some n
count_of-decimal n some small =
    let apart : (n == 0) ≡ false = ne_eqb n 0 (λ is. omega (arith, is)) in
    ap (option_and_then positive) (number_of-decimal n small) ∙ rw apart refl
