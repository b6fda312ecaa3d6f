-- What the rows of steps give, in the terms of the intrinsics (LLVM Language Reference).
use Rattle.std.specs.Prelude.{◌≡◌, ℕ, ◌+◌, ◌-◌, ◌*◌, ◌/◌, ◌%◌, ◌^◌, ◌<◌, ◌≤◌, min, nat_abs, Bool, true, false, nat_lt, nat_le, if◌then◌else◌, [], ◌∷◌, Ok}
use Rattle.sp_ids.specs.Numbers.{wrapped, signed}
use Rattle.ir_ast.specs.declared.ops.Pred.{Pred}
use Rattle.ir_ast.specs.declared.ops.Pred.TheVariants.{Ugt, Ult, Sgt, Slt}
use Rattle.object_meaning.specs.Comparisons.{numbers_compare, bit}
use Rattle.expansion_laws.specs.Results.{results_of, row_gives, row_checks}
use Rattle.llvm_steps.specs.Rows.{picks, adds_with_carry, subtracts_with_borrow, subtracts_down_to_zero, adds_up_to_ones, magnitudes, multiplies, shifts_left, shifts_right}

-- The row of `smax`, `smin`, `umax` and `umin` gives one of its operands, by how they compare.
abbrev pub PicksOne : Type 0
PicksOne = (pred : Pred) (width a b : ℕ)
    → results_of width (a ∷ b ∷ []) [] (picks pred) ≡ Ok (bit (numbers_compare pred width a b) ∷ (if numbers_compare pred width a b then a else b) ∷ [])

-- the first operand where it stands so to the second, else the second
abbrev pub picked : Pred → ℕ → ℕ → ℕ → ℕ
picked pred width a b = if numbers_compare pred width a b then a else b

-- `sgt` picks the greater signed number, `slt` the smaller one, `ugt` and `ult` likewise without a sign
abbrev pub is_strict : Pred → Bool
is_strict Sgt = true
is_strict Slt = true
is_strict Ugt = true
is_strict Ult = true
is_strict _ = false

-- And none of the two is beyond it: for `sgt` none is greater.
pub record IsExtreme (pred : Pred) (width a b picked : ℕ) : Type 0 where
  pub first : numbers_compare pred width a picked ≡ false
  pub second : numbers_compare pred width b picked ≡ false

abbrev pub PicksExtreme : Type 0
PicksExtreme = (pred : Pred) (width a b : ℕ) → is_strict pred ≡ true → IsExtreme pred width a b (picked pred width a b)

-- The row of `uadd.with.overflow` gives the sum and whether it doesn't fit.
abbrev pub AddsWithCarry : Type 0
AddsWithCarry = (width a b : ℕ) → a < 2 ^ width → b < 2 ^ width
    → results_of width (a ∷ b ∷ []) [] adds_with_carry ≡ Ok (wrapped width (a + b) ∷ bit (nat_le (2 ^ width) (a + b)) ∷ [])

-- The row of `usub.with.overflow` gives the difference and whether it is below 0.
abbrev pub SubtractsWithBorrow : Type 0
SubtractsWithBorrow = (width a b : ℕ)
    → results_of width (a ∷ b ∷ []) [] subtracts_with_borrow ≡ Ok (wrapped width (a + (2 ^ 64 - b)) ∷ bit (nat_lt a b) ∷ [])

-- The row of `usub.sat` gives the difference of natural numbers, which is 0 where it would be below.
abbrev pub SaturatesDown : Type 0
SaturatesDown = (width a b : ℕ) → width ≤ 64 → a < 2 ^ width → b < 2 ^ width → row_gives width (a ∷ b ∷ []) subtracts_down_to_zero ≡ Ok (a - b)

-- The row of `uadd.sat` gives the sum, or the greatest number.
abbrev pub SaturatesUp : Type 0
SaturatesUp = (width a b : ℕ) → a < 2 ^ width → b < 2 ^ width → row_gives width (a ∷ b ∷ []) (adds_up_to_ones width) ≡ Ok (min (a + b) (2 ^ width - 1))

-- The row of `abs` gives the magnitude of the signed number.
abbrev pub GivesMagnitude : Type 0
GivesMagnitude = (width a : ℕ) → width ≤ 64 → a < 2 ^ width → row_gives width (a ∷ []) magnitudes ≡ Ok (nat_abs (signed width a))

-- The row of `umul.with.overflow` gives the product and whether it doesn't fit.
abbrev pub MultipliesChecked : Type 0
MultipliesChecked = (width a b : ℕ) → row_checks width (a ∷ b ∷ []) multiplies ≡ Ok (wrapped width (a * b), bit (nat_le (2 ^ width) (a * b)))

-- the two numbers side by side, the first one above the second
abbrev pub side_by_side : ℕ → ℕ → ℕ → ℕ
side_by_side width a b = a * 2 ^ width + b

-- The row of `fshl` gives the upper half of what stands side by side, shifted left by the third number modulo the width.
abbrev pub FunnelsLeft : Type 0
FunnelsLeft = (width a b c : ℕ) → 1 ≤ width → width ≤ 64 → a < 2 ^ width → b < 2 ^ width
    → row_gives width (a ∷ b ∷ c ∷ []) (shifts_left width) ≡ Ok (wrapped width (side_by_side width a b * 2 ^ (c % width) / 2 ^ width))

-- That of `fshr` gives the lower half, shifted right.
abbrev pub FunnelsRight : Type 0
FunnelsRight = (width a b c : ℕ) → 1 ≤ width → width ≤ 64 → a < 2 ^ width → b < 2 ^ width
    → row_gives width (a ∷ b ∷ c ∷ []) (shifts_right width) ≡ Ok (wrapped width (side_by_side width a b / 2 ^ (c % width)))
