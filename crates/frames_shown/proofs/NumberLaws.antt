-- A signed number of at most 64 bits is read back from its word.
use Rattle.std.proofs.Common.{◌≡◌, ℕ, zero, suc, ◌-◌, ◌*◌, ◌%◌, ◌^◌, ◌<◌, ◌≤◌, ℤ, pos, negsuc, Bool, true, false, refl, ap, ◌∙◌, arith, nat_lt, if◌then◌else◌}
use Rattle.std.specs.Prelude.{◌-ℤ◌}
use Rattle.std.specs.Int.{cast_unsigned, w64}
use Rattle.std.specs.Int.RustNames.{FitsSigned}
use Rattle.std.proofs.lemmas.Int.{ints}
use Rattle.std.proofs.lemmas.Bool.{le-ltb, lt-ltb, ltb-true, ltb-false}
use Rattle.std.proofs.lemmas.Nat.{mod_below, pow_pos}
use Rattle.std.proofs.Math.Pow.{pow_mono}
use Rattle.sp_ids.specs.Numbers.{signed}
use Rattle.object_meaning.specs.Numbers.{sign_extended}

word_fits : (number : ℤ) → FitsSigned w64 number → cast_unsigned w64 number < 2 ^ 64
word_fits (pos n) fits = omega (arith, ints)
word_fits (negsuc n) fits = omega (arith, ints)

pub word_back : (number : ℤ) → FitsSigned w64 number → signed 64 (cast_unsigned w64 number) ≡ number
word_back (pos n) fits =
    let small : n < 2 ^ 63 = omega (arith, ints) in
    let same : n % 2 ^ 64 ≡ n = omega arith in
    ap (λ (m : ℕ). if nat_lt (2 * m) (2 ^ 64) then pos m else pos m -ℤ pos (2 ^ 64)) same
    ∙ ap (λ (b : Bool). if b then pos n else pos n -ℤ pos (2 ^ 64)) (lt-ltb (2 * n) (2 ^ 64) (omega arith))
word_back (negsuc n) fits =
    let small : n < 2 ^ 63 = omega (arith, ints) in
    let same : (2 ^ 64 - suc n) % 2 ^ 64 ≡ 2 ^ 64 - suc n = omega arith in
    ap (λ (m : ℕ). if nat_lt (2 * m) (2 ^ 64) then pos m else pos m -ℤ pos (2 ^ 64)) same
    ∙ (ap (λ (b : Bool). if b then pos (2 ^ 64 - suc n) else pos (2 ^ 64 - suc n) -ℤ pos (2 ^ 64)) (le-ltb (2 * (2 ^ 64 - suc n)) (2 ^ 64) (omega arith))
    ∙ omega (arith, ints))

negative_fits : (m p : ℕ) → m < p → p ≤ 2 ^ 64 → p ≤ 2 * m → FitsSigned w64 (pos m -ℤ pos p)
negative_fits m zero below top high = absurd (omega arith)
negative_fits m (suc p) below top high = omega (arith, ints)

pub signed_fits : (width n : ℕ) → width ≤ 64 → FitsSigned w64 (signed width n)
signed_fits width n small = by (nat_lt (2 * (n % 2 ^ width)) (2 ^ width)) refl
  where
    few : 2 ^ width ≤ 2 ^ 64
    few = pow_mono small

    below : n % 2 ^ width < 2 ^ width
    below = mod_below n (2 ^ width) (pow_pos width)

    by : (b : Bool) → nat_lt (2 * (n % 2 ^ width)) (2 ^ width) ≡ b
        → FitsSigned w64 (if b then pos (n % 2 ^ width) else pos (n % 2 ^ width) -ℤ pos (2 ^ width))
    by true is =
        let low = ltb-true (2 * (n % 2 ^ width)) (2 ^ width) is in omega (arith, ints, few, below)
    by false is =
        negative_fits (n % 2 ^ width) (2 ^ width) below few (ltb-false (2 * (n % 2 ^ width)) (2 ^ width) is)

-- so is one that was extended to a word
pub extended_back : (width n : ℕ) → width ≤ 64 → signed 64 (sign_extended width 64 n) ≡ signed width n
extended_back width n small =
    let word = cast_unsigned w64 (signed width n) in
    let below = word_fits (signed width n) (signed_fits width n small) in
    let same : word % 2 ^ 64 ≡ word = omega arith in
    ap (signed 64) same ∙ word_back (signed width n) (signed_fits width n small)
