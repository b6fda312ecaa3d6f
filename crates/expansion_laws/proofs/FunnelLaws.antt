-- What the rows of steps of shifts over two numbers side by side give.
use Rattle.std.proofs.Common.{◌≡◌, refl, ap, sym, ◌∙◌, subst, ℕ, zero, suc, ◌+◌, ◌-◌, ◌*◌, ◌/◌, ◌%◌, ◌^◌, ◌<◌, ◌≤◌, true, false, [], ◌∷◌, Ok, inl, inr, arith}
use Rattle.std.specs.Prelude.{◌==◌, nat_lt, ◌⊎◌}
use Rattle.std.proofs.lemmas.Bool.{lt-ltb, ne_eqb, cases_lt}
use Rattle.std.proofs.lemmas.Nat.{pow_pos, pow-add}
use Rattle.std.proofs.Math.Nat.{mod-lt, mod-add-div, add-mul-mod_self_left, add-mul-div_left, mul-div-mul_right, div-div-eq-div-mul, mul_comm, mul_assoc, add-mul}
use Rattle.std.proofs.Math.Pow.{pow_mono}
use Rattle.sp_ids.specs.Numbers.{wrapped}
use Rattle.llvm_steps.specs.Rows.{shifts_left, shifts_right}
use Rattle.expansion_laws.specs.Results.{row_gives}
use Rattle.expansion_laws.specs.ExpansionLaws.{side_by_side, FunnelsLeft, FunnelsRight}
use Rattle.expansion_laws.proofs.NumberLaws.{difference, in_word}

-- ---- numbers

-- what a number that is cut off lacks is a multiple of the limit
lacks : (limit x y z : ℕ) → x * y + z ≡ (x % limit * y + z) + limit * (x / limit * y)
lacks limit x y z =
    let whole : x ≡ x % limit + limit * (x / limit) = sym (mod-add-div x limit) in
    let spread : (x % limit + limit * (x / limit)) * y ≡ x % limit * y + limit * (x / limit) * y = add-mul (x % limit) (limit * (x / limit)) y in
    let group : limit * (x / limit) * y ≡ limit * (x / limit * y) = mul_assoc limit (x / limit) y in
    let product : x * y ≡ x % limit * y + limit * (x / limit * y) = ap (λ (it : ℕ). it * y) whole ∙ spread ∙ ap (λ (it : ℕ). x % limit * y + it) group in
    regroup (x * y) (x % limit * y) (limit * (x / limit * y)) z product
  where
    regroup : (p m q z : ℕ) → p ≡ m + q → p + z ≡ (m + z) + q
    regroup p m q z is = omega (arith, is)

-- a product whose first factor was cut off
cut_product : (limit x y z : ℕ) → (x % limit * y + z) % limit ≡ (x * y + z) % limit
cut_product limit x y z =
    sym (ap (λ (it : ℕ). it % limit) (lacks limit x y z) ∙ add-mul-mod_self_left (x % limit * y + z) limit (x / limit * y))

cut_sum : (limit x z : ℕ) → (x % limit + z) % limit ≡ (x + z) % limit
cut_sum limit x z =
    let one : x % limit * 1 ≡ x % limit = omega arith in
    let other : x * 1 ≡ x = omega arith in
    ap (λ (it : ℕ). (it + z) % limit) (sym one) ∙ cut_product limit x 1 z ∙ ap (λ (it : ℕ). (it + z) % limit) other

-- the halves of two numbers side by side
above : (a b low high : ℕ) → 0 < high → (a * (low * high) + b) / high ≡ b / high + a * low
above a b low high some =
    let turned : a * (low * high) ≡ high * (a * low) = sym (mul_assoc a low high) ∙ mul_comm (a * low) high in
    let sum : a * (low * high) + b ≡ b + high * (a * low) = ap (λ (it : ℕ). it + b) turned ∙ (let h : high * (a * low) + b ≡ b + high * (a * low) = omega arith in h) in
    ap (λ (it : ℕ). it / high) sum ∙ add-mul-div_left b (a * low) some

upper : (limit a b low high : ℕ) → 0 < low → 0 < high → limit ≡ low * high → (a * limit + b) * low / limit ≡ a * low + b / high
upper limit a b low high some more is =
    rw is (ap (λ (it : ℕ). (a * (low * high) + b) * low / it) (mul_comm low high)
    ∙ mul-div-mul_right (a * (low * high) + b) high some ∙ above a b low high more ∙ (let h : b / high + a * low ≡ a * low + b / high = omega arith in h))

lower : (limit a b low high : ℕ) → 0 < low → limit ≡ low * high → (a * limit + b) / low ≡ a * high + b / low
lower limit a b low high some is =
    rw is (ap (λ (it : ℕ). (a * it + b) / low) (mul_comm low high) ∙ above a b high low some ∙ (let h : b / low + a * high ≡ a * high + b / low = omega arith in h))

-- ---- rows

parts : (width s : ℕ) → s < width → 2 ^ width ≡ 2 ^ s * (2 ^ 1 * 2 ^ (width - 1 - s))
parts width s below =
    let whole : s + (1 + (width - 1 - s)) ≡ width = omega (arith, below) in
    ap (λ (it : ℕ). 2 ^ it) (sym whole) ∙ pow-add 2 s (1 + (width - 1 - s)) ∙ ap (λ (it : ℕ). 2 ^ s * it) (pow-add 2 1 (width - 1 - s))

-- what is left of the width
left_over : (width s : ℕ) → width ≤ 64 → s < width → wrapped width ((width - 1) + (2 ^ 64 - s)) ≡ width - 1 - s
left_over width s small below =
    let word : s ≤ 2 ^ 64 = omega (arith, small, below) in
    let power : width < 2 ^ width = below_power width in
    difference width (width - 1) s small (omega (arith, below)) word (omega (arith, power))
  where
    below_power : (n : ℕ) → n < 2 ^ n
    below_power zero = omega arith
    below_power (suc n) = let less = below_power n in omega (arith, less)

left_row : (width a b c : ℕ) → 2 ≤ width → width ≤ 64
    → row_gives width (a ∷ b ∷ c ∷ []) (shifts_left width) ≡ Ok (wrapped width (wrapped width (a * 2 ^ (c % width)) + b / 2 ^ 1 / 2 ^ (width - 1 - c % width)))
left_row width a b c big small =
    let below : c % width < width = mod-lt c (omega (arith, big)) in
    let no_one : (width == 1) ≡ false = ne_eqb width 1 (omega (arith, big)) in
    let no_zero : (width == 0) ≡ false = ne_eqb width 0 (omega (arith, big)) in
    let first : nat_lt 1 width ≡ true = lt-ltb 1 width (omega (arith, big)) in
    let second : nat_lt (width - 1 - c % width) width ≡ true = lt-ltb (width - 1 - c % width) width (omega (arith, big)) in
    let third : nat_lt (c % width) width ≡ true = lt-ltb (c % width) width below in
    rw (no_one, no_zero, left_over width (c % width) small below, first, second, third) refl

right_row : (width a b c : ℕ) → 2 ≤ width → width ≤ 64
    → row_gives width (a ∷ b ∷ c ∷ []) (shifts_right width) ≡ Ok (wrapped width (wrapped width (wrapped width (a * 2 ^ 1) * 2 ^ (width - 1 - c % width)) + b / 2 ^ (c % width)))
right_row width a b c big small =
    let below : c % width < width = mod-lt c (omega (arith, big)) in
    let no_one : (width == 1) ≡ false = ne_eqb width 1 (omega (arith, big)) in
    let no_zero : (width == 0) ≡ false = ne_eqb width 0 (omega (arith, big)) in
    let first : nat_lt 1 width ≡ true = lt-ltb 1 width (omega (arith, big)) in
    let second : nat_lt (width - 1 - c % width) width ≡ true = lt-ltb (width - 1 - c % width) width (omega (arith, big)) in
    let third : nat_lt (c % width) width ≡ true = lt-ltb (c % width) width below in
    rw (no_one, no_zero, left_over width (c % width) small below, first, second, third) refl

left_wide : (width a b c : ℕ) → 2 ≤ width → width ≤ 64
    → row_gives width (a ∷ b ∷ c ∷ []) (shifts_left width) ≡ Ok (wrapped width (side_by_side width a b * 2 ^ (c % width) / 2 ^ width))
left_wide width a b c big small =
    let s = c % width in
    let d = width - 1 - c % width in
    let below : c % width < width = mod-lt c (omega (arith, big)) in
    let high : 0 < 2 ^ 1 * 2 ^ d = (let power = pow_pos d in omega (arith, power)) in
    left_row width a b c big small
    ∙ ap (λ (it : ℕ). Ok it) (cut_sum (2 ^ width) (a * 2 ^ s) (b / 2 ^ 1 / 2 ^ d)
    ∙ ap (λ (it : ℕ). (a * 2 ^ s + it) % 2 ^ width) (div-div-eq-div-mul b (2 ^ 1) (2 ^ d))
    ∙ ap (λ (it : ℕ). it % 2 ^ width) (sym (upper (2 ^ width) a b (2 ^ s) (2 ^ 1 * 2 ^ d) (pow_pos s) high (parts width s below))))

right_wide : (width a b c : ℕ) → 2 ≤ width → width ≤ 64
    → row_gives width (a ∷ b ∷ c ∷ []) (shifts_right width) ≡ Ok (wrapped width (side_by_side width a b / 2 ^ (c % width)))
right_wide width a b c big small =
    let s = c % width in
    let d = width - 1 - c % width in
    let below : c % width < width = mod-lt c (omega (arith, big)) in
    right_row width a b c big small
    ∙ ap (λ (it : ℕ). Ok it) (cut_sum (2 ^ width) (wrapped width (a * 2 ^ 1) * 2 ^ d) (b / 2 ^ s)
    ∙ cut_product (2 ^ width) (a * 2 ^ 1) (2 ^ d) (b / 2 ^ s)
    ∙ ap (λ (it : ℕ). (it + b / 2 ^ s) % 2 ^ width) (mul_assoc a (2 ^ 1) (2 ^ d))
    ∙ ap (λ (it : ℕ). it % 2 ^ width) (sym (lower (2 ^ width) a b (2 ^ s) (2 ^ 1 * 2 ^ d) (pow_pos s) (parts width s below))))

no_rest : (c : ℕ) → c % 1 ≡ 0
no_rest c = let below : c % 1 < 1 = mod-lt c (omega arith) in omega (arith, below)

pub funnels_left : FunnelsLeft
funnels_left zero a b c some small first second = absurd (omega (arith, some))
funnels_left (suc zero) a b c some small first second =
    let is : a + 0 ≡ (a * 2 ^ 1 + b) * 2 ^ 0 / 2 ^ 1 = omega (arith, first, second) in
    rw (no_rest c) (ap (λ (it : ℕ). Ok (wrapped 1 it)) is)
funnels_left (suc (suc n)) a b c some small first second = left_wide (suc (suc n)) a b c (omega arith) small

pub funnels_right : FunnelsRight
funnels_right zero a b c some small first second = absurd (omega (arith, some))
funnels_right (suc zero) a b c some small first second =
    let is : (b + 0) % 2 ^ 1 ≡ ((a * 2 ^ 1 + b) / 2 ^ 0) % 2 ^ 1 = omega (arith, first, second) in
    rw (no_rest c) (ap (λ (it : ℕ). Ok it) is)
funnels_right (suc (suc n)) a b c some small first second = right_wide (suc (suc n)) a b c (omega arith) small
