-- Words of 64 bits, and the low bits of signed numbers.
use Rattle.std.proofs.Common.{◌≡◌, ℕ, zero, suc, ◌+◌, ◌-◌, ◌/◌, ◌%◌, ◌^◌, ◌<◌, ◌≤◌, ℤ, pos, negsuc, neg_ℤ, nat_abs, ap, subst, arith}
use lib.Pow.{mod-mod-pow}
use lib.Signed.{mag, quot_z, rem_z}
use native.Mathlib.Nat.{div-le_self, mod-le}
use mir.Syntax.{w64}
use mir.Val.{of_z, to_z}
use mir.ValLaws.{of_z-to_z}
use Rattle.sp_ids.specs.Numbers.{wrapped}
use Rattle.object_meaning.specs.Numbers.{spelled}

-- the low bits of a word are those of the number
pub word_low : (width n : ℕ) → width ≤ 64 → wrapped width (n % 2 ^ 64) ≡ wrapped width n
word_low width n small =
    let whole : (64 - width) + width ≡ 64 = omega arith in
    subst (λ (bits : ℕ). n % 2 ^ bits % 2 ^ width ≡ n % 2 ^ width) whole (mod-mod-pow n (64 - width) width)

of_negative : (n : ℕ) → of_z w64 (neg_ℤ (pos n)) < 2 ^ 64
of_negative zero = omega arith
of_negative (suc n) = omega arith

pub word_quotient : (a b : ℤ) → mag a < 2 ^ 63 → of_z w64 (quot_z a b) < 2 ^ 64
word_quotient (pos a) (pos b) small = let le = div-le_self a b in omega arith
word_quotient (pos a) (negsuc b) small = of_negative (a / suc b)
word_quotient (negsuc a) (pos b) small = of_negative (suc a / b)
word_quotient (negsuc a) (negsuc b) small = let le = div-le_self (suc a) (suc b) in omega arith

pub word_remainder : (a b : ℤ) → mag a < 2 ^ 63 → of_z w64 (rem_z a b) < 2 ^ 64
word_remainder (pos a) b small = let le = mod-le a (nat_abs b) in omega arith
word_remainder (negsuc a) b small = of_negative (suc a % nat_abs b)

-- a signed number that is read back from its word
pub spelled_same : (width : ℕ) (number : ℤ) → of_z w64 number < 2 ^ 64 → spelled width (to_z w64 (of_z w64 number)) ≡ spelled width number
spelled_same width number fits = ap (wrapped width) (of_z-to_z w64 (of_z w64 number) (record { fits = fits }))
