-- The base of each pointer. The base of a derived phi or select is a phi or select of the bases, which
-- stands directly before it; `merged` names it for each derived phi and select.
use Rattle.std.specs.Prelude.{◌≡◌, ℕ, true, List, ◌∷◌, ◌++◌, length, Some, slice_get}
use Rattle.std.specs.List.{AllZip}
use Rattle.sp_ids.specs.declared.ids.ValueId.{ValueId}
use Rattle.ir_ast.specs.declared.ops.Operand.{Operand}
use Rattle.ir_ast.specs.declared.ops.Operand.TheVariants.{Value, Null}
use Rattle.ir_ast.specs.declared.ops.Op.{Op}
use Rattle.ir_ast.specs.declared.ops.Op.TheVariants.{Phi, Select}
use Rattle.ir_ast.specs.Insts.{Instruction}
use Rattle.ir_ast.specs.Funcs.{Function, instructions_of}
use Rattle.ir_ast.specs.Values.{Gives, definitions_of}
use Rattle.ir_ast.specs.Derived.{Derived, is_step, is_merge}

-- the second operand is the base of the first
pub data Base (func : Function) (merged : ℕ → ValueId) : Operand → Operand → Type 0 where
  of_null : Base func merged Null Null
  of_itself : (value : ValueId) → ¬ Derived func value.0 → Base func merged (Value value) (Value value)
  of_step : (value : ValueId) (inst : Instruction) (pointer base : Operand) → Gives func value.0 inst
      → is_step inst.op ≡ true → slice_get inst.operands 0 ≡ Some pointer → Base func merged pointer base
      → Base func merged (Value value) base
  of_merge : (value : ValueId) (inst : Instruction) → Gives func value.0 inst → is_merge inst.op ≡ true
      → Derived func value.0 → Base func merged (Value value) (Value (merged value.0))

-- the operands of a phi or select, and those of the one for its bases
abbrev pub MergesBases : Function → (ℕ → ValueId) → Op → List Operand → List Operand → Type 0
MergesBases func merged Phi operands bases = AllZip (Base func merged) operands bases
MergesBases func merged Select (condition ∷ operands) (same ∷ bases) =
    (same ≡ condition) × AllZip (Base func merged) operands bases
MergesBases func merged _ operands bases = ⊥

-- what is inserted for one derived phi or select: the same line over the bases
pub record MergesAsIn (func : Function) (merged : ℕ → ValueId) (value : ℕ) (inst inserted : Instruction) : Type 0 where
  pub given : Gives func (merged value).0 inserted
  pub beside : (front : List Instruction) × (back : List Instruction)
      × (instructions_of func.blocks ≡ front ++ inserted ∷ inst ∷ back)
  pub op : inserted.op ≡ inst.op
  pub ty : inserted.ty ≡ inst.ty
  pub labels : inserted.labels ≡ inst.labels
  pub operands : MergesBases func merged inst.op inst.operands inserted.operands

-- every derived phi and select has its inserted one
pub record HasBases (func : Function) (merged : ℕ → ValueId) : Type 0 where
  pub inserted : ℕ → Instruction
  pub each : (value : ℕ) (inst : Instruction) → Gives func value inst → is_merge inst.op ≡ true → Derived func value
      → MergesAsIn func merged value inst (inserted value)

-- the table has the base of each value of the function, by the value's number
pub record IsBaseTable (func : Function) (merged : ℕ → ValueId) (table : List Operand) : Type 0 where
  pub whole : length table ≡ length (definitions_of func)
  pub each : (value : ValueId) (base : Operand) → slice_get table value.0 ≡ Some base → Base func merged (Value value) base
