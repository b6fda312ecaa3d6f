-- The lines of generated functions. P stands for `ptr addrspace(1)`, `%N` is the module's only layout.
use Rattle.std.specs.Prelude.{ℕ, List, [], ◌∷◌, ◌++◌, Option, Some, None}
use Rattle.std.specs.Fmt.{decimal}
use Rattle.sp_ids.specs.declared.ids.BlockId.{BlockId}
use Rattle.ir_ast.specs.declared.types.Ty.{Ty}
use Rattle.ir_ast.specs.declared.types.Ty.TheVariants.{Void, Int as Integer, Ptr}
use Rattle.ir_ast.specs.declared.ops.Callee.TheVariants.{Fun, New, Print}
use Rattle.ir_ast.specs.declared.ops.Elem.TheVariants.{Layout}
use Rattle.ir_ast.specs.declared.ops.Operand.{Operand}
use Rattle.ir_ast.specs.declared.ops.Operand.TheVariants.{Value, Int}
use Rattle.ir_ast.specs.declared.ops.Pred.TheVariants.{Ult}
use Rattle.ir_ast.specs.declared.ops.Op.{Op}
use Rattle.ir_ast.specs.declared.ops.Op.TheVariants.{Add, Icmp, Phi, Gep, Load, Store, Call, Br, CondBr, Ret}
use Rattle.ir_ast.specs.Insts.{Instruction}

-- a name of this front and a number
abbrev pub numbered_name : List ℕ → ℕ → List ℕ
numbered_name front number = front ++ decimal number

abbrev pub value : ℕ → Operand
value number = Value (record { 0 = number })

abbrev pub block : ℕ → BlockId
block number = record { 0 = number }

abbrev pub line : Option (List ℕ) → Op → Ty → List Operand → List BlockId → Instruction
line result op ty operands labels =
    record { result = result; op = op; ty = ty; operands = operands; labels = labels; bundle = [] }

-- `%x = call P @gc_new.N(i64 count)`
abbrev pub new_line : List ℕ → ℕ → Instruction
new_line name count = line (Some name) (Call (New 0) (Integer 64 ∷ [])) Ptr (Int count ∷ []) []

-- `%x = getelementptr %N, P base, i64 element, i32 0`
abbrev pub field_line : List ℕ → ℕ → ℕ → Instruction
field_line name base element =
    line (Some name) (Gep (Layout 0) 64 (Some 0)) Ptr (value base ∷ Int element ∷ []) []

-- `%x = load i64, P from`
abbrev pub load_line : List ℕ → ℕ → Instruction
load_line name from = line (Some name) Load (Integer 64) (value from ∷ []) []

-- `store i64 what, P to`
abbrev pub store_line : Operand → ℕ → Instruction
store_line what to = line None Store (Integer 64) (what ∷ value to ∷ []) []

-- `%x = add i64 left, right`
abbrev pub add_line : List ℕ → ℕ → Operand → Instruction
add_line name left right = line (Some name) Add (Integer 64) (value left ∷ right ∷ []) []

-- `%x = icmp ult i64 left, right`
abbrev pub below_line : List ℕ → ℕ → ℕ → Instruction
below_line name left right = line (Some name) (Icmp Ult) (Integer 64) (value left ∷ Int right ∷ []) []

-- `%x = phi T [ first, %l ], [ second, %m ]`
abbrev pub phi_line : List ℕ → Ty → Operand → ℕ → ℕ → ℕ → Instruction
phi_line name ty first from second other =
    line (Some name) Phi ty (first ∷ value second ∷ []) (block from ∷ block other ∷ [])

-- `%x = call i64 @g(P object, i64 number)`, of the function at this place
abbrev pub call_line : List ℕ → ℕ → ℕ → Operand → Instruction
call_line name func object number =
    line (Some name) (Call (Fun (record { 0 = func })) (Ptr ∷ Integer 64 ∷ [])) (Integer 64) (value object ∷ number ∷ []) []

-- `call void @print_i64(i64 number)`
abbrev pub print_line : ℕ → Instruction
print_line number = line None (Call Print (Integer 64 ∷ [])) Void (value number ∷ []) []

-- `br label %l`
abbrev pub jump_line : ℕ → Instruction
jump_line to = line None Br Void [] (block to ∷ [])

-- `br i1 test, label %l, label %m`
abbrev pub branch_line : ℕ → ℕ → ℕ → Instruction
branch_line test taken other = line None CondBr (Integer 1) (value test ∷ []) (block taken ∷ block other ∷ [])

-- `ret i64 answer`
abbrev pub return_line : Operand → Instruction
return_line answer = line None Ret (Integer 64) (answer ∷ []) []
