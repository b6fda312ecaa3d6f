-- What makes a line of a typed module well formed, whatever pass writes it.
use Rattle.std.specs.Prelude.{◌≡◌, ◌⊎◌, ◌≤◌, ℕ, false, List, length, codes, Some, is_some, slice_get}
use Rattle.std.specs.List.{All, AllZip}
use Rattle.sp_ids.specs.declared.ids.ValueId.{ValueId}
use Rattle.ir_ast.specs.declared.types.Ty.{Ty}
use Rattle.ir_ast.specs.declared.ops.Callee.{Callee}
use Rattle.ir_ast.specs.declared.ops.Operand.{Operand}
use Rattle.ir_ast.specs.declared.ops.Operand.TheVariants.{Value}
use Rattle.ir_ast.specs.Insts.{Instruction}
use Rattle.ir_ast.specs.Funcs.{Function}
use Rattle.ir_ast.specs.Lists.{HasFront}
use Rattle.ir_ast.specs.Modules.{ModuleContent}
use Rattle.ir_ast.specs.Lines.{IsLine}
use Rattle.ir_ast.specs.Scope.{Scope, scope_of}
use Rattle.ir_ast.specs.Widths.{IsWidth, line_widths}
use Rattle.ir_ast.specs.Faults.EntryHasPred.{LeavesEntry}
use Rattle.ir_ast.specs.Faults.PointerOrder.{orders_pointers}
use Rattle.ir_ast.specs.Faults.TypeClash.{IsTyped}
use Rattle.ir_ast.specs.Faults.UnknownName.{NamesOfFunction, NamesOfModule}

-- the line has a form, its operands have their types, and all that it names exists
pub record IsWellFormed (content : ModuleContent) (func : Function) (inst : Instruction) : Type 0 where
  pub line : IsLine inst
  pub typed : IsTyped (scope_of content func) inst
  pub local : NamesOfFunction func inst
  pub global : NamesOfModule content inst
  pub leaves : LeavesEntry inst
  pub unordered : orders_pointers inst.op inst.ty ≡ false
  pub widths : All IsWidth (line_widths inst)
  pub few : length inst.bundle ≤ 64

-- the other operand is this one; or for a value a value which has its type
abbrev pub Carries : List Ty → List Ty → Operand → Operand → Type 0
Carries before now (Value value) other =
    (to : ValueId) × (other ≡ Value to) × ((ty : Ty) → slice_get before value.0 ≡ Some ty → slice_get now to.0 ≡ Some ty)
Carries before now operand other = other ≡ operand

abbrev pub CarriesEntry : List Ty → List Ty → (Ty × Operand) → (Ty × Operand) → Type 0
CarriesEntry before now entry other = (other.0 ≡ entry.0) × Carries before now entry.1 other.1

-- the other line is this one over such operands
pub record LineCarries (before now : List Ty) (inst other : Instruction) : Type 0 where
  pub op : other.op ≡ inst.op
  pub ty : other.ty ≡ inst.ty
  pub labels : other.labels ≡ inst.labels
  pub named : is_some other.result ≡ is_some inst.result
  pub operands : AllZip (Carries before now) inst.operands other.operands
  pub bundle : AllZip (CarriesEntry before now) inst.bundle other.bundle

-- the lines of the other function see what those of this one see, but for the values
pub record SeesAlike (scope other : Scope) : Type 0 where
  pub answer : other.answer ≡ scope.answer
  pub called : (callee : Callee) → other.called callee ≡ scope.called callee
  pub fields : other.fields ≡ scope.fields

-- the names that rewriting gives to tokens, relocates and inserted phis begin so
abbrev pub IsGroupName : List ℕ → Type 0
IsGroupName name = HasFront (codes "sp.t") name ⊎ (HasFront (codes "sp.r") name ⊎ HasFront (codes "sp.m") name)
