-- What the intrinsics are written out as: rows of steps.
use Rattle.std.specs.Prelude.{ℕ, zero, suc, ◌+◌, ◌-◌, ◌*◌, ◌/◌, ◌^◌, ◌==◌, if◌then◌else◌, List, [], ◌∷◌, ◌++◌}
use Rattle.ir_ast.specs.declared.ops.Pred.{Pred}
use Rattle.ir_ast.specs.declared.ops.Pred.TheVariants.{Eq, Ne, Ugt, Ult, Sgt, Sge, Slt, Sle}
use Rattle.line_tokens.specs.declared.words.Binary.TheVariants as binaries
use Rattle.llvm_steps.specs.declared.steps.Intrinsic.{Intrinsic}
use Rattle.llvm_steps.specs.declared.steps.Intrinsic.TheVariants as intrinsics
use Rattle.llvm_steps.specs.declared.steps.Operand.{Operand}
use Rattle.llvm_steps.specs.declared.steps.Operand.TheVariants.{Given, Made, Number}
use Rattle.llvm_steps.specs.declared.steps.Step.{Step}
use Rattle.llvm_steps.specs.declared.steps.Step.TheVariants.{Compute, Compare, Choose, ChooseBit}

abbrev pub first : Operand
first = Given 0

abbrev pub second : Operand
second = Given 1

abbrev pub third : Operand
third = Given 2

-- the first operand where it stands so to the second, else the second
abbrev pub picks : Pred → List Step
picks pred = Compare pred first second ∷ Choose (Made 0) first second ∷ []

abbrev pub subtracts_down_to_zero : List Step
subtracts_down_to_zero =
    Compute binaries.Sub first second ∷ Compare Ugt first second ∷ Choose (Made 1) (Made 0) (Number 0) ∷ []

abbrev pub adds_with_carry : List Step
adds_with_carry = Compute binaries.Add first second ∷ Compare Ult (Made 0) first ∷ []

abbrev pub subtracts_with_borrow : List Step
subtracts_with_borrow = Compute binaries.Sub first second ∷ Compare Ult first second ∷ []

-- the bits up to a place, one behind the other: each is shifted down, cut off and added
abbrev pub bits_summed : ℕ → List Step
bits_summed zero = Compute binaries.And first (Number 1) ∷ []
bits_summed (suc at) =
    ((bits_summed at ++ Compute binaries.Lshr first (Number (at + 1)) ∷ [])
    ++ Compute binaries.And (Made (3 * at + 1)) (Number 1) ∷ [])
    ++ Compute binaries.Add (Made (3 * at)) (Made (3 * at + 2)) ∷ []

-- the bytes up to a place, each at the other end
abbrev pub bytes_summed : ℕ → ℕ → List Step
bytes_summed count zero = Compute binaries.And first (Number 0) ∷ []
bytes_summed count (suc at) =
    (((bytes_summed count at ++ Compute binaries.Lshr first (Number (8 * at)) ∷ [])
    ++ Compute binaries.And (Made (4 * at + 1)) (Number 255) ∷ [])
    ++ Compute binaries.Shl (Made (4 * at + 2)) (Number (8 * (count - 1 - at))) ∷ [])
    ++ Compute binaries.Add (Made (4 * at)) (Made (4 * at + 3)) ∷ []

abbrev pub shifts_left : ℕ → List Step
shifts_left width = if width == 1 then Compute binaries.Add first (Number 0) ∷ [] else
    Compute binaries.Urem third (Number width) ∷ Compute binaries.Sub (Number (width - 1)) (Made 0)
    ∷ Compute binaries.Lshr second (Number 1) ∷ Compute binaries.Lshr (Made 2) (Made 1)
    ∷ Compute binaries.Shl first (Made 0) ∷ Compute binaries.Add (Made 4) (Made 3) ∷ []

abbrev pub shifts_right : ℕ → List Step
shifts_right width = if width == 1 then Compute binaries.Add second (Number 0) ∷ [] else
    Compute binaries.Urem third (Number width) ∷ Compute binaries.Sub (Number (width - 1)) (Made 0)
    ∷ Compute binaries.Shl first (Number 1) ∷ Compute binaries.Shl (Made 2) (Made 1)
    ∷ Compute binaries.Lshr second (Made 0) ∷ Compute binaries.Add (Made 3) (Made 4) ∷ []

-- less than 0: the number below 0 from 0 up
abbrev pub magnitudes : List Step
magnitudes = Compute binaries.Sub (Number 0) first ∷ Compare Slt first (Number 0) ∷ Choose (Made 1) (Made 0) first ∷ []

abbrev pub adds_up_to_ones : ℕ → List Step
adds_up_to_ones width =
    Compute binaries.Add first second ∷ Compare Ult (Made 0) first ∷ Choose (Made 1) (Number (2 ^ width - 1)) (Made 0) ∷ []

-- of a signed sum: with a number below 0 it is below the first one, with any other it isn't, where it fits
abbrev pub adds_signed : List Step
adds_signed =
    Compute binaries.Add first second ∷ Compare Slt second (Number 0) ∷ Compare Slt (Made 0) first ∷ Compare Sge (Made 0) first
    ∷ ChooseBit (Made 1) (Made 3) (Made 2) ∷ []

-- likewise of a signed difference
abbrev pub subtracts_signed : List Step
subtracts_signed =
    Compute binaries.Sub first second ∷ Compare Slt second (Number 0) ∷ Compare Sgt (Made 0) first ∷ Compare Sle (Made 0) first
    ∷ ChooseBit (Made 1) (Made 3) (Made 2) ∷ []

-- a product by a number that isn't 0 fits exactly where the quotient by it is the other number
abbrev pub multiplies : List Step
multiplies =
    Compute binaries.Mul first second ∷ Compare Eq first (Number 0) ∷ Choose (Made 1) (Number 1) first
    ∷ Compute binaries.Udiv (Made 0) (Made 2) ∷ Compare Ne (Made 3) second ∷ ChooseBit (Made 1) (Number 0) (Made 4) ∷ []

abbrev pub multiplies_signed : ℕ → List Step
multiplies_signed width =
    Compute binaries.Mul first second ∷ Compare Eq first (Number 0) ∷ Compare Eq first (Number (2 ^ width - 1))
    ∷ Choose (Made 1) (Number 1) first ∷ Choose (Made 2) (Number 1) (Made 3)
    ∷ Compute binaries.Sdiv (Made 0) (Made 4) ∷ Compare Ne (Made 5) second ∷ ChooseBit (Made 1) (Number 0) (Made 6)
    ∷ Compare Eq second (Number (2 ^ (width - 1))) ∷ ChooseBit (Made 2) (Made 8) (Made 7) ∷ []

-- the row of an intrinsic at a width
abbrev pub row_of : Intrinsic → ℕ → List Step
row_of (intrinsics.Pick pred) width = picks pred
row_of intrinsics.Abs width = magnitudes
row_of intrinsics.SubSaturating width = subtracts_down_to_zero
row_of intrinsics.AddSaturating width = adds_up_to_ones width
row_of intrinsics.Ones width = bits_summed (width - 1)
row_of intrinsics.BytesTurned width = bytes_summed (width / 8) (width / 8)
row_of intrinsics.FunnelLeft width = shifts_left width
row_of intrinsics.FunnelRight width = shifts_right width
row_of intrinsics.AddChecked width = adds_with_carry
row_of intrinsics.SubChecked width = subtracts_with_borrow
row_of intrinsics.MulChecked width = multiplies
row_of intrinsics.SignedAddChecked width = adds_signed
row_of intrinsics.SignedSubChecked width = subtracts_signed
row_of intrinsics.SignedMulChecked width = multiplies_signed width
