-- What a target module gives each line of its functions: its form, and the types of its operands and its result.
use Rattle.std.specs.Prelude.{◌≡◌, ℕ, false, List, Option, Some, is_some, slice_get}
use Rattle.ir_ast.specs.declared.ops.Callee.TheVariants.{Check, Print, Read, Same}
use Rattle.ir_ast.specs.declared.ops.Elem.{Elem}
use Rattle.ir_ast.specs.declared.ops.Op.{Op}
use Rattle.ir_ast.specs.declared.ops.Op.TheVariants as ops
use Rattle.ir_ast.specs.declared.ops.Pred.{Pred}
use Rattle.ir_ast.specs.declared.types.Ty.{Ty}
use Rattle.ir_ast.specs.Faults.PointerOrder.{orders_pointers}
use Rattle.ir_ast.specs.Faults.TypeClash.{IsTyped}
use Rattle.ir_ast.specs.Funcs.{Function}
use Rattle.ir_ast.specs.Lines.{IsLine}
use Rattle.ir_ast.specs.Modules.{ModuleContent}
use Rattle.ir_ast.specs.Scope.{scope_of}
use Rattle.ir_ast.specs.Values.{outcome_type, value_types}
use Rattle.object_meaning.specs.Lines.{Line}
use Rattle.moves_unseen.specs.Steps.{IsArithmetic}

-- a line of a function: its register is that of its result, and has the type of it
pub record IsLineOf (content : ModuleContent) (func : Function) (line : Line) : Type 0 where
  pub form : IsLine line.inst
  pub typed : IsTyped (scope_of content func) line.inst
  pub unordered : orders_pointers line.inst.op line.inst.ty ≡ false
  pub gives : is_some line.to ≡ is_some line.inst.result
  pub type : (to : ℕ) → line.to ≡ Some to → slice_get (value_types func) to ≡ Some (outcome_type line.inst.op line.inst.ty)

-- operators of lines that stay in their frame, and are no jump and no event
pub data IsPlain : Op → Type 0 where
  computes : (op : Op) → IsArithmetic op → IsPlain op
  advances : (elem : Elem) (index_width : ℕ) (field : Option ℕ) → IsPlain (ops.Gep elem index_width field)
  orders : (pred : Pred) → IsPlain (ops.Icmp pred)
  chooses : IsPlain ops.Select
  loads : IsPlain ops.Load
  stores : IsPlain ops.Store
  checks : (types : List Ty) → IsPlain (ops.Call Check types)
  compares : (types : List Ty) → IsPlain (ops.Call Same types)
  prints : (types : List Ty) → IsPlain (ops.Call Print types)
  reads : (types : List Ty) → IsPlain (ops.Call Read types)

-- operators of lines that go to another block
pub data IsJump : Op → Type 0 where
  jumps : IsJump ops.Br
  branches : IsJump ops.CondBr
  switches : IsJump ops.Switch
