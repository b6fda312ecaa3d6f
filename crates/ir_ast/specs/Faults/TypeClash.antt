-- Types: what has no fault of code 5.
use Rattle.std.specs.Prelude.{◌≡◌, ⊤, ℕ, ◌-◌, ◌^◌, ◌<◌, true, List, [], ◌∷◌, ◌++◌, length, drop, replicate, Option, Some, IfSome, slice_get}
use Rattle.std.specs.List.{All, AllZip}
use Rattle.sp_ids.specs.declared.ids.FuncId.{FuncId}
use Rattle.ir_ast.specs.declared.types.Ty.{Ty}
use Rattle.ir_ast.specs.declared.types.Ty.TheVariants.{Void, Int, Ptr, Token}
use Rattle.ir_ast.specs.declared.cells.Cell.{Cell}
use Rattle.ir_ast.specs.declared.ops.Operand.{Operand}
use Rattle.ir_ast.specs.declared.ops.Operand.TheVariants.{Value, Int as Literal, Null, Fun}
use Rattle.ir_ast.specs.declared.ops.Callee.{Callee}
use Rattle.ir_ast.specs.declared.ops.Callee.TheVariants.{Fun as Defined, TaskStart, Check}
use Rattle.ir_ast.specs.declared.ops.Elem.{Elem}
use Rattle.ir_ast.specs.declared.ops.Elem.TheVariants.{Layout}
use Rattle.ir_ast.specs.declared.ops.Op.{Op}
use Rattle.ir_ast.specs.declared.ops.Op.TheVariants.{Trunc, Zext, Sext, Select, Gep, Load, Store, Call, Statepoint, GcResult, GcRelocate, Switch, Ret}
use Rattle.ir_ast.specs.Cells.{type_of, kind_of}
use Rattle.ir_ast.specs.Types.{is_first_class, is_answer}
use Rattle.ir_ast.specs.Lists.{Distinct}
use Rattle.ir_ast.specs.Insts.{Instruction}
use Rattle.ir_ast.specs.Funcs.{Function, instructions_of}
use Rattle.ir_ast.specs.Modules.{ModuleContent}
use Rattle.ir_ast.specs.Scope.{Scope, scope_of}

-- the operand fits the type; a literal of iN stands for its value modulo 2^N
abbrev pub Fits : List Ty → Operand → Ty → Type 0
Fits values (Value value) ty = slice_get values value.0 ≡ Some ty
Fits values (Literal number) ty = (width : ℕ) × (ty ≡ Int width) × (number < 2 ^ width)
Fits values Null ty = ty ≡ Ptr
Fits values (Fun func) ty = ty ≡ Void

-- the types that a line asks of its operands, of which it has so many: mostly the type of the line
abbrev pub asked : Op → Ty → ℕ → List Ty
asked Select ty count = Int 1 ∷ ty ∷ ty ∷ []
asked (Gep elem index_width place) ty count = Ptr ∷ Int index_width ∷ []
asked Load ty count = Ptr ∷ []
asked Store ty count = ty ∷ Ptr ∷ []
asked (Call callee types) ty count = types
asked (Statepoint id callee types) ty count = types ++ replicate (count - length types) Ptr
asked GcResult ty count = Token ∷ []
asked GcRelocate ty count = Token ∷ Int 32 ∷ Int 32 ∷ []
asked _ ty count = replicate count ty

abbrev pub IsNarrower : ℕ → Ty → Type 0
IsNarrower width ty = (than : ℕ) × (ty ≡ Int than) × (width < than)

abbrev pub IsWider : ℕ → Ty → Type 0
IsWider width ty = (than : ℕ) × (ty ≡ Int than) × (than < width)

-- `i64` or `ptr addrspace(1)`, which memory holds
abbrev pub IsCellType : Ty → Type 0
IsCellType ty = (cell : Cell) × (type_of cell ≡ ty)

-- a place that the line names is that of a field
abbrev pub HasField : List ℕ → Elem → Option ℕ → Type 0
HasField fields (Layout layout) (Some place) = IfSome (slice_get fields layout) (λ count. place < count)
HasField fields elem place = ⊤

-- a task starts at a defined `void (ptr addrspace(1))`
abbrev pub StartsTask : Scope → List Operand → Type 0
StartsTask scope operands =
    (func : FuncId) × (slice_get operands 0 ≡ Some (Fun func))
    × (scope.called (Defined func) ≡ Some (record { answer = Void; params = Ptr ∷ [] }))

-- the kind of a check is that of a cell
abbrev pub ChecksKind : List Operand → Type 0
ChecksKind operands = (cell : Cell) × (slice_get operands 2 ≡ Some (Literal (kind_of cell)))

abbrev pub TakesOperands : Scope → Callee → List Operand → Type 0
TakesOperands scope TaskStart operands = StartsTask scope operands
TakesOperands scope Check operands = ChecksKind operands
TakesOperands scope _ operands = ⊤

-- the line calls what there is to call, by its types
pub record IsCallOf (scope : Scope) (callee : Callee) (types : List Ty) (inst : Instruction) : Type 0 where
  pub signature : scope.called callee ≡ Some (record { answer = inst.ty; params = types })
  pub operands : TakesOperands scope callee inst.operands

-- what a line asks besides
abbrev pub RuleOf : Scope → Op → Instruction → Type 0
RuleOf scope (Trunc width) inst = IsNarrower width inst.ty
RuleOf scope (Zext width) inst = IsWider width inst.ty
RuleOf scope (Sext width) inst = IsWider width inst.ty
RuleOf scope (Gep elem index_width place) inst = HasField scope.fields elem place
RuleOf scope Load inst = IsCellType inst.ty
RuleOf scope Store inst = IsCellType inst.ty
RuleOf scope (Call callee types) inst = IsCallOf scope callee types inst
RuleOf scope (Statepoint id callee types) inst = IsCallOf scope callee types inst
RuleOf scope Switch inst = Distinct (drop 1 inst.operands)
RuleOf scope Ret inst = inst.ty ≡ scope.answer
RuleOf scope _ inst = ⊤

pub record IsTyped (scope : Scope) (inst : Instruction) : Type 0 where
  pub operands : AllZip (Fits scope.values) inst.operands (asked inst.op inst.ty (length inst.operands))
  pub bundle : All (λ entry. Fits scope.values entry.1 entry.0) inst.bundle
  pub rule : RuleOf scope inst.op inst

pub record FunctionIsTyped (scope : Scope) (func : Function) : Type 0 where
  pub answer : is_answer func.answer ≡ true
  pub args : All (λ arg. is_first_class arg.ty ≡ true) func.args
  pub lines : All (IsTyped scope) (instructions_of func.blocks)

abbrev pub ModuleIsTyped : ModuleContent → Type 0
ModuleIsTyped content = All (λ func. FunctionIsTyped (scope_of content func) func) content.funcs
