-- Lines that use nothing but values before them.
use Rattle.std.specs.Prelude.{◌≡◌, ℕ, ◌+◌, ◌<◌, Bool, true, false, List, length, take, is_some, nat_lt, Some, slice_get}
use Rattle.std.specs.List.{All, filter}
use Rattle.ir_ast.specs.declared.ops.Operand.{Operand}
use Rattle.ir_ast.specs.declared.ops.Operand.TheVariants.{Value}
use Rattle.ir_ast.specs.Insts.{Instruction}
use Rattle.ir_ast.specs.Faults.PhiEdges.{is_phi}

abbrev pub is_below : ℕ → Operand → Bool
is_below limit (Value value) = nat_lt value.0 limit
is_below limit _ = true

-- it is no phi, has no bundle, and uses nothing but the first values
pub record IsKnown (limit : ℕ) (inst : Instruction) : Type 0 where
  pub plain : is_phi inst.op ≡ false
  pub unbundled : length inst.bundle ≡ 0
  pub below : All (λ operand. is_below limit operand ≡ true) inst.operands

-- how many values there are before a place
abbrev pub values_before : ℕ → List Instruction → ℕ → ℕ
values_before arguments insts place = arguments + length (filter (λ inst. is_some inst.result) (take place insts))

-- so many lines use nothing but values before them
abbrev pub AreKnown : ℕ → List Instruction → ℕ → Type 0
AreKnown arguments insts count =
    (place : ℕ) (inst : Instruction) → place < count → slice_get insts place ≡ Some inst → IsKnown (values_before arguments insts place) inst
