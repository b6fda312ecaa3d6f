-- Spellings of integers.
use Rattle.std.proofs.Common.{◌≡◌, ◌≢◌, ℕ, ◌*◌, ◌%◌, ◌^◌, ◌<◌, ◌≤◌, true, false, nat_lt, nat_eq, codes, decimal, refl, arith}
use Rattle.std.specs.Fmt.{signed_decimal, digits}
use Rattle.std.proofs.Math.Nat.{mod-eq_of_lt, pow-le-pow_right, mod-lt}
use Rattle.std.proofs.lemmas.Bool.{ne_eqb, lt-ltb}
use Rattle.sp_ids.specs.Numbers.{wrapped, signed}
use Rattle.ir_printer.specs.Words.{integer_text}

pub integer-empty : (width number : ℕ) → width ≡ 0 → integer_text width number ≡ decimal 0
unfolding integer_text
integer-empty width number none =
    let bits : 2 ^ 0 ≡ 1 = refl in
    let low : number % 1 ≡ 0 = omega (arith, mod-lt number {m = 1}) in
    rw none (rw bits (rw low refl))

pub integer-false : (width number : ℕ) → width ≡ 1 → wrapped 1 number ≡ 0 → integer_text width number ≡ codes "false"
unfolding integer_text
integer-false width number one low = rw (one, low)

pub integer-true : (width number : ℕ) → width ≡ 1 → wrapped 1 number ≢ 0 → integer_text width number ≡ codes "true"
unfolding integer_text
integer-true width number one high =
    let test : nat_eq (wrapped 1 number) 0 ≡ false = ne_eqb _ _ high in rw (one, test)

pub integer-signed : (width number : ℕ) → width ≢ 1 → integer_text width number ≡ signed_decimal (signed width number)
unfolding integer_text
integer-signed width number other =
    let test : nat_eq width 1 ≡ false = ne_eqb _ _ other in rw test

pub integer-wide : (width number : ℕ) → 65 ≤ width → number < 2 ^ 64 → integer_text width number ≡ decimal number
integer-wide width number wide word =
    let other : width ≢ 1 = omega arith in
    let more : 2 ^ 65 ≤ 2 ^ width = pow-le-pow_right {n = 2} (omega arith) wide in
    let same : number % 2 ^ width ≡ number = mod-eq_of_lt (omega arith) in
    let test : nat_lt (2 * number) (2 ^ width) ≡ true = lt-ltb _ _ (omega arith) in
    rw (integer-signed width number other, same, test)

-- a digit
pub integer-digit : (width number : ℕ) → 8 ≤ width → number < 10 → integer_text width number ≡ decimal number
integer-digit width number wide low =
    let other : width ≢ 1 = omega arith in
    let more : 2 ^ 8 ≤ 2 ^ width = pow-le-pow_right {n = 2} (omega arith) wide in
    let same : number % 2 ^ width ≡ number = mod-eq_of_lt (omega arith) in
    let test : nat_lt (2 * number) (2 ^ width) ≡ true = lt-ltb _ _ (omega arith) in
    rw (integer-signed width number other, same, test)

-- the widths that most lines have
pub decimal-64 : decimal 64 ≡ codes "64"
unfolding digits
decimal-64 = refl

pub decimal-32 : decimal 32 ≡ codes "32"
unfolding digits
decimal-32 = refl
