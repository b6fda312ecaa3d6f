-- The line forms of the source and of the rewritten form: which parts an instruction has, by its operator.
-- T is an integer type or `ptr addrspace(1)`, which P stands for; V is a value, a number or `null`.
use Rattle.std.specs.Prelude.{◌≡◌, ℕ, ◌<◌, Bool, true, false, not, ◌==◌, ◌&&◌, ◌||◌, if◌then◌else◌, List, [], ◌∷◌, length, take, drop, Option, is_some, is_none}
use Rattle.std.specs.List.{list_all, AllZip}
use Rattle.sp_ids.specs.declared.ids.ValueId.{ValueId}
use Rattle.ir_ast.specs.declared.types.Ty.{Ty}
use Rattle.ir_ast.specs.declared.ops.Operand.{Operand}
use Rattle.ir_ast.specs.declared.ops.Operand.TheVariants.{Value, Int, Fun}
use Rattle.ir_ast.specs.declared.ops.Callee.{Callee}
use Rattle.ir_ast.specs.declared.ops.Callee.TheVariants.{TaskStart}
use Rattle.ir_ast.specs.declared.ops.Elem.{Elem}
use Rattle.ir_ast.specs.declared.ops.Elem.TheVariants.{Int as Integer, Ptr, Layout}
use Rattle.ir_ast.specs.declared.ops.Op.{Op}
use Rattle.ir_ast.specs.declared.ops.Op.TheVariants.{Add, Sub, Mul, Udiv, Sdiv, Urem, Srem, And, Or, Xor, Shl, Lshr, Ashr, Icmp, Trunc, Zext, Sext, Select, Phi, Gep, Load, Store, Call, Statepoint, GcResult, GcRelocate, Br, CondBr, Switch, Ret, Unreachable}
use Rattle.ir_ast.specs.Insts.{Instruction}
use Rattle.ir_ast.specs.Types.{is_void, is_integer, is_condition, is_pointer, is_first_class, is_answer}
use Rattle.ir_ast.specs.Callees.{is_leaf, is_helper}
use Rattle.ir_ast.specs.Operands.{is_value, is_literal}

-- a line with a result or without one, with a type of a class, and with so many operands and labels
pub record Has (named : Bool) (class : Ty → Bool) (operands labels : ℕ) (inst : Instruction) : Type 0 where
  pub result : is_some inst.result ≡ named
  pub type : class inst.ty ≡ true
  pub operand_count : length inst.operands ≡ operands
  pub values : list_all is_value inst.operands ≡ true
  pub label_count : length inst.labels ≡ labels
  pub no_bundle : inst.bundle ≡ []

-- the source element of a `getelementptr`; only a layout has fields to name
abbrev pub is_element : Elem → Option ℕ → Bool
is_element (Integer width) place = (width == 8 || width == 16 || width == 32 || width == 64) && is_none place
is_element Ptr place = is_none place
is_element (Layout layout) place = true

-- an argument `T V`, or the name of a function, which only `task_start` takes and whose type is spelled `ptr`
abbrev pub is_argument : Callee → Operand → Ty → Bool
is_argument TaskStart (Fun func) ty = is_void ty
is_argument callee operand ty = is_value operand && is_first_class ty

abbrev pub Arguments : Callee → List Operand → List Ty → Type 0
Arguments callee operands types = AllZip (λ operand ty. is_argument callee operand ty ≡ true) operands types

-- each entry of a "deopt" bundle is `T V`
abbrev pub is_bundle : List (Ty × Operand) → Bool
is_bundle bundle = list_all (λ entry. is_first_class entry.0 && is_value entry.1) bundle

-- `%x = call T @f(T V, ..)`, `call void @f(T V, ..)`
pub record IsCall (callee : Callee) (types : List Ty) (inst : Instruction) : Type 0 where
  pub result : is_some inst.result ≡ not (is_void inst.ty)
  pub type : is_answer inst.ty ≡ true
  pub arguments : Arguments callee inst.operands types
  pub no_labels : inst.labels ≡ []
  pub bundle : is_bundle inst.bundle ≡ true
  pub leaf : is_leaf callee ≡ true → inst.bundle ≡ []

-- `%t = call token (..) @llvm.experimental.gc.statepoint.p0(.. @f, .. ARGS ..) [ "gc-live"(P V, ..) ]`
pub record IsStatepoint (callee : Callee) (types : List Ty) (inst : Instruction) : Type 0 where
  pub result : is_some inst.result ≡ true
  pub type : is_answer inst.ty ≡ true
  pub arguments : Arguments callee (take (length types) inst.operands) types
  pub entries : list_all is_value (drop (length types) inst.operands) ≡ true
  pub no_labels : inst.labels ≡ []
  pub bundle : is_bundle inst.bundle ≡ true

-- `token %t`
abbrev pub StartsWithToken : List Operand → List Operand → Type 0
StartsWithToken operands rest = (token : ValueId) × (operands ≡ Value token ∷ rest)

-- `token %t, i32 B, i32 D`
abbrev pub IsRelocated : List Operand → Type 0
IsRelocated operands = (base : ℕ) × (derived : ℕ) × StartsWithToken operands (Int base ∷ Int derived ∷ [])

abbrev pub LineOf : Op → Instruction → Type 0
-- `%x = OP iN V, V`
LineOf Add inst = Has true is_integer 2 0 inst
LineOf Sub inst = Has true is_integer 2 0 inst
LineOf Mul inst = Has true is_integer 2 0 inst
LineOf Udiv inst = Has true is_integer 2 0 inst
LineOf Sdiv inst = Has true is_integer 2 0 inst
LineOf Urem inst = Has true is_integer 2 0 inst
LineOf Srem inst = Has true is_integer 2 0 inst
LineOf And inst = Has true is_integer 2 0 inst
LineOf Or inst = Has true is_integer 2 0 inst
LineOf Xor inst = Has true is_integer 2 0 inst
LineOf Shl inst = Has true is_integer 2 0 inst
LineOf Lshr inst = Has true is_integer 2 0 inst
LineOf Ashr inst = Has true is_integer 2 0 inst
-- `%x = icmp PRED T V, V`
LineOf (Icmp pred) inst = Has true is_first_class 2 0 inst
-- `%x = trunc iN V to iM`, and likewise `zext` and `sext`
LineOf (Trunc width) inst = Has true is_integer 1 0 inst
LineOf (Zext width) inst = Has true is_integer 1 0 inst
LineOf (Sext width) inst = Has true is_integer 1 0 inst
-- `%x = select i1 V, T V, T V`
LineOf Select inst = Has true is_first_class 3 0 inst
-- `%x = phi T [ V, %l ], ..` with at least one entry
LineOf Phi inst = Has true is_first_class (length inst.operands) (length inst.operands) inst × (0 < length inst.operands)
-- `%x = getelementptr E, P V, iN V`, and `%x = getelementptr %T, P V, iN V, i32 C`
LineOf (Gep elem index_width place) inst = Has true is_pointer 2 0 inst × (is_element elem place ≡ true)
-- `%x = load T, P V`
LineOf Load inst = Has true is_first_class 1 0 inst
-- `store T V, P V`
LineOf Store inst = Has false is_first_class 2 0 inst
LineOf (Call callee types) inst = IsCall callee types inst
LineOf (Statepoint id callee types) inst = IsStatepoint callee types inst
-- `%x = call T @llvm.experimental.gc.result.S(token %t)`
LineOf GcResult inst = Has true is_first_class 1 0 inst × StartsWithToken inst.operands []
-- `%x = call P @llvm.experimental.gc.relocate.p1(token %t, i32 B, i32 D)`
LineOf GcRelocate inst = Has true is_pointer 3 0 inst × IsRelocated inst.operands
-- `br label %l`
LineOf Br inst = Has false is_void 0 1 inst
-- `br i1 V, label %l, label %m`
LineOf CondBr inst = Has false is_condition 1 2 inst
-- `switch iN V, label %l [ iN C, label %m .. ]`, the default label first
LineOf Switch inst =
    Has false is_integer (length inst.operands) (length inst.operands) inst × (0 < length inst.operands)
    × (list_all is_literal (drop 1 inst.operands) ≡ true)
-- `ret void`, `ret T V`
LineOf Ret inst = Has false is_answer (if is_void inst.ty then 0 else 1) 0 inst
LineOf Unreachable inst = Has false is_void 0 0 inst

-- the instruction has the parts of a line form
abbrev pub IsLine : Instruction → Type 0
IsLine inst = LineOf inst.op inst

-- the operator stands only in the rewritten form
abbrev pub is_rewritten : Op → Bool
is_rewritten (Call callee types) = is_helper callee
is_rewritten (Statepoint id callee types) = true
is_rewritten GcResult = true
is_rewritten GcRelocate = true
is_rewritten _ = false
