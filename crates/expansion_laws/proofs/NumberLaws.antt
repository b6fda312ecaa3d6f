-- What the rows of steps of saturating sums and differences, of magnitudes and of checked products give.
use Rattle.std.proofs.Common.{◌≡◌, refl, ap, sym, ◌∙◌, subst, ℕ, zero, suc, ◌+◌, ◌-◌, ◌*◌, ◌/◌, ◌%◌, ◌^◌, ◌<◌, ◌≤◌, Bool, true, false, not, [], ◌∷◌, Ok, inl, inr, arith}
use Rattle.std.specs.Prelude.{◌==◌, nat_lt, nat_le, int_lt, nat_abs, Result, ℤ, pos, negsuc, ◌-ℤ◌, ◌⊎◌, min, if◌then◌else◌}
use Rattle.std.proofs.lemmas.Bool.{cases_lt, cases_Bool, lt-ltb, le-ltb, lt-leb, le-leb, ltb-true, ltb-false, ne_eqb}
use Rattle.std.proofs.lemmas.Bool.Decides.{Decides-eqb}
use Rattle.std.proofs.lemmas.Int.{ints}
use Rattle.std.proofs.lemmas.Nat.{pow_pos}
use Rattle.std.proofs.Math.Nat.{mod-eq_of_lt, mod-eq-sub-mod, mod-lt, min-eq_left, min-eq_right, mul-div_cancel_left, mul-div-le, mod-le}
use Rattle.std.proofs.Math.Pow.{pow_mono}
use Rattle.sp_ids.specs.Numbers.{wrapped, signed}
use Rattle.sp_ids.specs.declared.ends.Trap.{Trap}
use Rattle.object_meaning.specs.Comparisons.{bit}
use Rattle.object_meaning.proofs.NumberLemmas.{word_low}
use Rattle.llvm_steps.specs.Rows.{multiplies}
use Rattle.expansion_laws.specs.Results.{row_checks}
use Rattle.expansion_laws.specs.ExpansionLaws.{SaturatesDown, SaturatesUp, GivesMagnitude, MultipliesChecked}
use Rattle.expansion_laws.proofs.PickLaws.{by_bit, carry}

-- ---- differences

-- a difference that is not below 0, by a word less the second number
pub difference : (width a b : ℕ) → width ≤ 64 → b ≤ a → b ≤ 2 ^ 64 → a - b < 2 ^ width → wrapped width (a + (2 ^ 64 - b)) ≡ a - b
difference width a b small below word fits =
    let high : 2 ^ 64 ≤ a + (2 ^ 64 - b) = omega (arith, below, word) in
    let same : a + (2 ^ 64 - b) - 2 ^ 64 ≡ a - b = omega (arith, below, word) in
    sym (word_low width (a + (2 ^ 64 - b)) small)
    ∙ ap (λ (it : ℕ). wrapped width it) (mod-eq-sub-mod high ∙ ap (λ (it : ℕ). it % 2 ^ 64) same)
    ∙ word_low width (a - b) small
    ∙ mod-eq_of_lt fits

pub in_word : (width a : ℕ) → width ≤ 64 → a < 2 ^ width → a ≤ 2 ^ 64
in_word width a small below = let most : 2 ^ width ≤ 2 ^ 64 = pow_mono small in omega (arith, below, most)

down : (width a b : ℕ) → width ≤ 64 → a < 2 ^ width → b < 2 ^ width → (a < b + 1) ⊎ (b + 1 ≤ a)
    → (if nat_lt b a then wrapped width (a + (2 ^ 64 - b)) else 0) ≡ a - b
down width a b small first second (inl least) =
    let none : a - b ≡ 0 = omega (arith, least) in
    rw (le-ltb b a (omega (arith, least))) (sym none)
down width a b small first second (inr more) =
    rw (lt-ltb b a (omega (arith, more)))
    (difference width a b small (omega (arith, more)) (in_word width b small second) (omega (arith, first)))

pub saturates_down : SaturatesDown
saturates_down width a b small first second =
    ap (λ (it : ℕ). Ok it) (by_bit (nat_lt b a) (wrapped width (a + (2 ^ 64 - b))) 0 ∙ down width a b small first second (cases_lt a (b + 1)))

-- ---- sums

up : (limit a b : ℕ) → 0 < limit → ((a + b) < limit) ⊎ (limit ≤ (a + b))
    → (if nat_le limit (a + b) then limit - 1 else (a + b) % limit) ≡ min (a + b) (limit - 1)
up limit a b some (inl fits) = rw (lt-leb limit (a + b) fits) (mod-eq_of_lt fits ∙ sym (min-eq_left (omega (arith, fits))))
up limit a b some (inr over) = rw (le-leb limit (a + b) over) (sym (min-eq_right (omega (arith, over, some))))

pub saturates_up : SaturatesUp
saturates_up width a b first second =
    ap (λ (it : ℕ). Ok it) (by_bit (nat_lt (wrapped width (a + b)) a) (2 ^ width - 1) (wrapped width (a + b))
    ∙ ap (λ (it : Bool). if it then 2 ^ width - 1 else wrapped width (a + b)) (carry (2 ^ width) a b first second (cases_lt (a + b) (2 ^ width)))
    ∙ up (2 ^ width) a b (pow_pos width) (cases_lt (a + b) (2 ^ width)))

-- ---- magnitudes

signed_by : (width a : ℕ) → a < 2 ^ width → signed width a ≡ (if nat_lt (2 * a) (2 ^ width) then pos a else pos a -ℤ pos (2 ^ width))
signed_by width a below = ap (λ (it : ℕ). if nat_lt (2 * it) (2 ^ width) then pos it else pos it -ℤ pos (2 ^ width)) (mod-eq_of_lt below)

signed_zero : (width : ℕ) → signed width 0 ≡ pos 0
signed_zero width = signed_by width 0 (pow_pos width) ∙ rw (lt-ltb (2 * 0) (2 ^ width) (pow_pos width)) refl

below_zero : (a limit : ℕ) → a < limit → pos a -ℤ pos limit ≡ negsuc (limit - suc a)
below_zero a zero below = absurd (omega (arith, below))
below_zero a (suc limit) below = omega (arith, ints, below)

negated : (width a : ℕ) → width ≤ 64 → 0 < a → a < 2 ^ width → wrapped width (0 + (2 ^ 64 - a)) ≡ 2 ^ width - a
negated width a small some below =
    let word = in_word width a small below in
    let behind : 2 ^ width + (2 ^ 64 - a) - 2 ^ width ≡ 0 + (2 ^ 64 - a) = omega arith in
    ap (λ (it : ℕ). it % 2 ^ width) (sym behind) ∙ sym (mod-eq-sub-mod (let h : 2 ^ width ≤ 2 ^ width + (2 ^ 64 - a) = omega arith in h))
    ∙ difference width (2 ^ width) a small (omega (arith, below)) word (omega (arith, some, below))

magnitude : (width a : ℕ) → width ≤ 64 → a < 2 ^ width → (test : Bool) → nat_lt (2 * a) (2 ^ width) ≡ test
    → (if int_lt (signed width a) (signed width 0) then wrapped width (0 + (2 ^ 64 - a)) else a) ≡ nat_abs (signed width a)
magnitude width a small below true is =
    let positive : signed width a ≡ pos a = signed_by width a below ∙ rw is refl in
    rw (positive, signed_zero width, le-ltb a 0 (omega arith)) refl
magnitude width a small below false is =
    let high = ltb-false (2 * a) (2 ^ width) is in
    let some : 0 < a = (let power = pow_pos width in omega (arith, high, power)) in
    let negative : signed width a ≡ negsuc (2 ^ width - suc a) = signed_by width a below ∙ rw is (below_zero a (2 ^ width) below) in
    let size : 2 ^ width - a ≡ suc (2 ^ width - suc a) = omega (arith, below) in
    rw (negative, signed_zero width) (negated width a small some below ∙ size)

pub gives_magnitude : GivesMagnitude
gives_magnitude width a small below =
    ap (λ (it : ℕ). Ok it) (by_bit (int_lt (signed width a) (signed width 0)) (wrapped width (0 + (2 ^ 64 - a))) a
    ∙ magnitude width a small below (nat_lt (2 * a) (2 ^ width)) refl)

-- ---- products

abbrev made_pair : ℕ → ℕ → Bool → Result (ℕ × ℕ) Trap
made_pair width number over = Ok (wrapped width number, bit over)

-- the quotient of a product that was cut off by one of its factors is the other one exactly where the product fits
quotient : (limit a b : ℕ) → 0 < limit → 0 < a → ((a * b) < limit) ⊎ (limit ≤ (a * b)) → not ((a * b) % limit / a == b) ≡ nat_le limit (a * b)
quotient limit a b some first (inl fits) =
    let whole : (a * b) % limit / a ≡ b = ap (λ (it : ℕ). it / a) (mod-eq_of_lt fits) ∙ mul-div_cancel_left b first in
    rw ((Decides-eqb ((a * b) % limit / a) b).1 whole, lt-leb limit (a * b) fits) refl
quotient limit a b some first (inr over) = elim (cases_Bool ((a * b) % limit / a == b)) [
  | inl same ↦ absurd (let is : (a * b) % limit / a ≡ b = (Decides-eqb ((a * b) % limit / a) b).0 same in
      let less : a * ((a * b) % limit / a) ≤ (a * b) % limit = mul-div-le ((a * b) % limit) a in
      let product : a * b ≤ (a * b) % limit = subst (λ (it : ℕ). a * it ≤ (a * b) % limit) is less in
      let below : (a * b) % limit < limit = mod-lt (a * b) some in
      omega (arith, product, below, over))
  | inr other ↦ rw (other, le-leb limit (a * b) over) refl
]

checked_row : (width a b : ℕ) → (a == 0) ≡ false
    → row_checks width (a ∷ b ∷ []) multiplies ≡ made_pair width (a * b) (not (wrapped width (a * b) / a == b))
checked_row width a b some = rw some (rw some refl)

fits_or_not : (width : ℕ) (number : ℕ) (one other : Bool) → one ≡ other → made_pair width number one ≡ made_pair width number other
fits_or_not width number one other same = ap (made_pair width number) same

pub multiplies_checked : MultipliesChecked
multiplies_checked width zero b = ap (made_pair width (zero * b)) (sym (lt-leb (2 ^ width) (zero * b) (let power = pow_pos width in let none : zero * b ≡ 0 = omega arith in omega (arith, power, none))))
multiplies_checked width (suc a) b =
    checked_row width (suc a) b (ne_eqb (suc a) 0 (omega arith))
    ∙ fits_or_not width (suc a * b) (not (wrapped width (suc a * b) / suc a == b)) (nat_le (2 ^ width) (suc a * b))
    (quotient (2 ^ width) (suc a) b (pow_pos width) (omega arith) (cases_lt (suc a * b) (2 ^ width)))
