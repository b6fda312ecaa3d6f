-- Literals: the number that a printed literal stands for.
use Rattle.std.proofs.Common.{◌≡◌, ◌∙◌, ℕ, zero, suc, ◌+◌, ◌-◌, ◌*◌, ◌%◌, ◌^◌, ◌<◌, ◌≤◌, Bool, true, false, not, ℤ, pos, negsuc, ◌-ℤ◌, nat_lt, ◌==◌, refl, ap, subst, arith, if◌then◌else◌}
use Rattle.std.proofs.Math.Nat.{mod-eq_of_lt, pow-le-pow_right}
use Rattle.std.proofs.lemmas.Nat.{mod-mul-add, pow-add, pow_pos}
use Rattle.std.proofs.lemmas.Bool.Decides.{Decides-eqb}
use Rattle.sp_ids.specs.Numbers.{signed}
use Rattle.sp_ids.specs.Numbers as numbers
use Rattle.ir_ast.specs.declared.ops.Operand.TheVariants as operands
use Rattle.line_parts.specs.Types as types
use Rattle.ir_lines.specs.Modules.{wrapped, operand_in}
use Rattle.read_back.specs.Said.{literal_of, integer_value}
use Rattle.std.specs.Prelude.{List}

pub below_zero : (n m k : ℕ) → n + suc k ≡ m → pos n -ℤ pos m ≡ negsuc k
below_zero n m k e = by n m e
  where
    by : (n m : ℕ) → n + suc k ≡ m → pos n -ℤ pos m ≡ negsuc k
    by n m e = grind arith

-- the number is again the same modulo 2^width
again : (w n : ℕ) → 1 ≤ w → w ≤ 64 → n < 2 ^ w → ((2 ^ 64 - (2 ^ w - n)) % 2 ^ 64) % 2 ^ w ≡ n
again w n low high below =
    let whole : 2 ^ 64 ≡ 2 ^ (64 - w) * 2 ^ w = ap (λ (k : ℕ). 2 ^ k) (let e : 64 ≡ (64 - w) + w = omega arith in e) ∙ pow-add 2 (64 - w) w in
    let some : 0 < 2 ^ (64 - w) = pow_pos (64 - w) in
    let le : 2 ^ w ≤ 2 ^ 64 = pow-le-pow_right {n = 2} (omega arith) high in
    let inner : (2 ^ 64 - (2 ^ w - n)) % 2 ^ 64 ≡ 2 ^ 64 - (2 ^ w - n) = mod-eq_of_lt (omega arith) in
    let split : 2 ^ 64 - (2 ^ w - n) ≡ (2 ^ (64 - w) - 1) * 2 ^ w + n = part (2 ^ (64 - w)) (2 ^ w) n (2 ^ 64) whole some below in
    ap (λ (k : ℕ). k % 2 ^ w) (inner ∙ split) ∙ mod-mul-add (2 ^ (64 - w) - 1) (2 ^ w) n below
  where
    part : (a b n t : ℕ) → t ≡ a * b → 0 < a → n < b → t - (b - n) ≡ (a - 1) * b + n
    part zero b n t e some below = absurd (omega arith)
    part (suc a) b n t e some below =
        let same : suc a * b ≡ a * b + b = grind arith in
        let less : suc a - 1 ≡ a = omega arith in
        rw less (let r : t - (b - n) ≡ a * b + n = omega arith in r)

-- the number that a printed literal stands for
pub literal-back : (w n : ℕ) → 1 ≤ w → w ≤ 64 → n < 2 ^ w → wrapped w (literal_of (signed w n)) ≡ n
literal-back w n low high below =
    let kept : numbers.wrapped w n ≡ n = mod-eq_of_lt below in
    ap (λ (k : ℕ). wrapped w (literal_of (if nat_lt (2 * k) (2 ^ w) then pos k else pos k -ℤ pos (2 ^ w)))) kept
    ∙ by (nat_lt (2 * n) (2 ^ w))
  where
    by : (b : Bool) → wrapped w (literal_of (if b then pos n else pos n -ℤ pos (2 ^ w))) ≡ n
    by true = mod-eq_of_lt below
    by false =
        let under : pos n -ℤ pos (2 ^ w) ≡ negsuc (2 ^ w - n - 1) = below_zero n (2 ^ w) (2 ^ w - n - 1) (omega arith) in
        let size : suc (2 ^ w - n - 1) ≡ 2 ^ w - n = omega arith in
        ap (λ (z : ℤ). wrapped w (literal_of z)) under
        ∙ ap (λ (m : ℕ). ((2 ^ 64 - m) % 2 ^ 64) % 2 ^ w) size
        ∙ again w n low high below

truth-back : (names : List (List ℕ)) (n : ℕ) → n < 2 ^ 1
    → operand_in names (types.Int 1) (Rattle.line_parts.specs.Parts.truth (not (numbers.wrapped 1 n == 0))) ≡ operands.Int n
truth-back names zero below = refl
truth-back names (suc zero) below = refl
truth-back names (suc (suc n)) below = absurd (let few : 2 ^ 1 ≡ 2 = refl in omega arith)

pub integer-back : (names : List (List ℕ)) (w n : ℕ) → 1 ≤ w → w ≤ 64 → n < 2 ^ w
    → operand_in names (types.Int w) (integer_value w n) ≡ operands.Int n
integer-back names w n low high below = by (w == 1) refl
  where
    by : (b : Bool) → (w == 1) ≡ b → operand_in names (types.Int w) (integer_value w n) ≡ operands.Int n
    by true e =
        let one : w ≡ 1 = (Decides-eqb w 1).0 e in
        ap (λ (b : Bool). operand_in names (types.Int w) (if b then Rattle.line_parts.specs.Parts.truth (not (numbers.wrapped 1 n == 0)) else Rattle.line_parts.specs.Parts.number (literal_of (signed w n)))) e
        ∙ truth-back names n (subst (λ (k : ℕ). n < 2 ^ k) one below)
    by false e =
        ap (λ (b : Bool). operand_in names (types.Int w) (if b then Rattle.line_parts.specs.Parts.truth (not (numbers.wrapped 1 n == 0)) else Rattle.line_parts.specs.Parts.number (literal_of (signed w n)))) e
        ∙ ap operands.Int (literal-back w n low high below)
