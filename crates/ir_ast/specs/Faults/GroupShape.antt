-- Statepoint groups: what has no fault of code 18, which is one of the rewritten form alone (Garbage
-- Collection Safepoints in LLVM, "Intrinsics").
use Rattle.std.specs.Prelude.{◌≡◌, ◌≢◌, ℕ, ◌+◌, ◌<◌, ◌==◌, Bool, true, false, List, [], ◌∷◌, length, take, filter, Some, IfSome, is_some, slice_get}
use Rattle.std.specs.List.{All, list_all, list_any}
use Rattle.sp_ids.specs.declared.ids.ValueId.{ValueId}
use Rattle.ir_ast.specs.declared.types.Ty.{Ty}
use Rattle.ir_ast.specs.declared.types.Ty.TheVariants.{Ptr, Token}
use Rattle.ir_ast.specs.declared.ops.Operand.{Operand}
use Rattle.ir_ast.specs.declared.ops.Operand.TheVariants.{Value, Int}
use Rattle.ir_ast.specs.declared.ops.Op.{Op}
use Rattle.ir_ast.specs.declared.ops.Op.TheVariants.{Statepoint, GcResult, GcRelocate}
pub use Rattle.ir_ast.specs.Ops.{is_statepoint}
use Rattle.ir_ast.specs.Insts.{Instruction}
use Rattle.ir_ast.specs.Funcs.{Function, instructions_of}
use Rattle.ir_ast.specs.Values.{value_types}
pub use Rattle.ir_ast.specs.Operands.{live_entries, entries_of}
use Rattle.ir_ast.specs.Operands.{same_operand, values_used}
use Rattle.ir_ast.specs.Faults.TypeClash.{Fits}

-- the number of the value that the instruction at a place gives
abbrev pub number_at : Function → ℕ → ℕ
number_at func place =
    length func.args + length (filter (λ inst. is_some inst.result) (take place (instructions_of func.blocks)))

abbrev first_is : ℕ → List Operand → Bool
first_is token (Value value ∷ operands) = value.0 == token
first_is token _ = false

abbrev part_of : ℕ → Op → List Operand → Bool
part_of token GcResult operands = first_is token operands
part_of token GcRelocate operands = first_is token operands
part_of token op operands = false

-- a result or a relocate of this token
abbrev pub is_part : ℕ → Instruction → Bool
is_part token inst = part_of token inst.op inst.operands

-- the statepoint that gives the token stands before the place, and only parts of its group stand between
pub record Group (func : Function) (token place : ℕ) : Type 0 where
  pub head : ℕ
  pub statepoint : Instruction
  pub stands : slice_get (instructions_of func.blocks) head ≡ Some statepoint
  pub op : is_statepoint statepoint.op ≡ true
  pub gives : number_at func head ≡ token
  pub before : head < place
  pub between : (k : ℕ) → head < k → k < place
      → IfSome (slice_get (instructions_of func.blocks) k) (λ inst. is_part token inst ≡ true)

-- a result stands directly after its statepoint, and has the type of the callee's answer
pub record ResultInShape (func : Function) (place : ℕ) (inst : Instruction) : Type 0 where
  pub token : ValueId
  pub operands : inst.operands ≡ Value token ∷ []
  pub group : Group func token.0 place
  pub directly : group.head + 1 ≡ place
  pub type : inst.ty ≡ group.statepoint.ty

-- a relocate names two live entries, of which the derived one isn't `null`
pub record RelocateInShape (func : Function) (place : ℕ) (inst : Instruction) : Type 0 where
  pub token : ValueId
  pub base : ℕ
  pub derived : ℕ
  pub operands : inst.operands ≡ Value token ∷ Int base ∷ Int derived ∷ []
  pub group : Group func token.0 place
  pub base_entry : base < length (entries_of group.statepoint)
  pub derived_entry : (value : ValueId) × (slice_get (entries_of group.statepoint) derived ≡ Some (Value value))

-- an instruction that is no part of a group uses no token
abbrev pub UsesNoToken : Function → Instruction → Type 0
UsesNoToken func inst = All (λ value. slice_get (value_types func) value ≢ Some Token) (values_used inst)

-- what a bundle names stands among these live entries, if it is a pointer
abbrev pub is_held : List Operand → Ty → Operand → Bool
is_held entries Ptr (Value value) = list_any (λ entry. same_operand entry (Value value)) entries
is_held entries ty operand = true

-- each pointer that the bundle of a statepoint names is one of its live entries
abbrev pub holds_live : Instruction → Bool
holds_live inst = list_all (λ entry. is_held (entries_of inst) entry.0 entry.1) inst.bundle

-- it uses no token, and its live entries are pointers
abbrev pub IsApart : Function → Instruction → Type 0
IsApart func inst = UsesNoToken func inst × All (λ entry. Fits (value_types func) entry Ptr) (entries_of inst)

abbrev pub ShapeOf : Function → ℕ → Instruction → Op → Type 0
ShapeOf func place inst GcResult = ResultInShape func place inst
ShapeOf func place inst GcRelocate = RelocateInShape func place inst
ShapeOf func place inst (Statepoint id callee types) = IsApart func inst × (holds_live inst ≡ true)
ShapeOf func place inst op = IsApart func inst

abbrev pub GroupsInShape : Function → Type 0
GroupsInShape func = (place : ℕ) (inst : Instruction) → slice_get (instructions_of func.blocks) place ≡ Some inst
    → ShapeOf func place inst inst.op
