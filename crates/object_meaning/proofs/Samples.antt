-- Modules that are run by the definitions, to see that these say what was meant.
use Rattle.std.proofs.Common.{ℕ, List, [], ◌∷◌, Option, Some, None, codes}
use Rattle.ir_ast.specs.declared.cells.Cell.TheVariants as cells
use Rattle.ir_ast.specs.declared.ops.Callee.TheVariants as callees
use Rattle.ir_ast.specs.declared.ops.Elem.TheVariants as elems
use Rattle.ir_ast.specs.declared.ops.Op.{Op}
use Rattle.ir_ast.specs.declared.ops.Pred.{Pred}
use Rattle.ir_ast.specs.declared.ops.Op.TheVariants as ops
use Rattle.ir_ast.specs.declared.ops.Operand.{Operand}
use Rattle.ir_ast.specs.declared.ops.Operand.TheVariants as operands
use Rattle.ir_ast.specs.declared.funcs.Arg.{Arg}
use Rattle.ir_ast.specs.declared.modules.Form.{Form}
use Rattle.ir_ast.specs.declared.types.Ty.{Ty}
use Rattle.ir_ast.specs.declared.types.Ty.TheVariants.{Void, Int, Ptr}
use Rattle.ir_ast.specs.Insts.{Instruction}
use Rattle.ir_ast.specs.Layouts.{ObjectLayout}
use Rattle.ir_ast.specs.Funcs.{Function}
use Rattle.ir_ast.specs.Modules.{ModuleContent}
pub mod Tasks
pub mod Objects
pub mod Bundles
pub mod Rewritten

-- %N = type { i64, ptr addrspace(1) }
abbrev pub node : ObjectLayout
node = record { name = codes "N"; fields = cells.I64 ∷ cells.Ptr ∷ [] }

abbrev pub value : ℕ → Operand
value number = operands.Value (record { 0 = number })

abbrev pub literal : ℕ → Operand
literal number = operands.Int number

abbrev pub line : Option (List ℕ) → Op → Ty → List Operand → Instruction
line result op ty operands = record { result = result; op = op; ty = ty; operands = operands; labels = []; bundle = [] }

-- a line with a result, and one without
abbrev pub gives : Op → Ty → List Operand → Instruction
gives op ty operands = line (Some []) op ty operands

abbrev pub does : Op → Ty → List Operand → Instruction
does op ty operands = line None op ty operands

abbrev pub new : ℕ → Instruction
new count = gives (ops.Call (callees.New 0) (Int 64 ∷ [])) Ptr (literal count ∷ [])

abbrev pub print : Operand → Instruction
print operand = does (ops.Call callees.Print (Int 64 ∷ [])) Void (operand ∷ [])

abbrev pub call : ℕ → Instruction
call func = does (ops.Call (callees.Fun (record { 0 = func })) []) Void []

abbrev pub start : ℕ → Operand → Instruction
start func argument =
    does (ops.Call callees.TaskStart (Void ∷ Ptr ∷ [])) Void (operands.Fun (record { 0 = func }) ∷ argument ∷ [])

abbrev pub load : Operand → Instruction
load from = gives ops.Load (Int 64) (from ∷ [])

abbrev pub store : Operand → Operand → Instruction
store word to = does ops.Store (Int 64) (word ∷ to ∷ [])

-- getelementptr %N, ptr addrspace(1) from, i64 index
abbrev pub element : Operand → ℕ → Instruction
element from index = gives (ops.Gep (elems.Layout 0) 64 None) Ptr (from ∷ literal index ∷ [])

-- getelementptr i8, ptr addrspace(1) from, i64 index
abbrev pub byte : Operand → ℕ → Instruction
byte from index = gives (ops.Gep (elems.Int 8) 64 None) Ptr (from ∷ literal index ∷ [])

-- getelementptr %N, ptr addrspace(1) from, i64 0, i32 place
abbrev pub field : Operand → ℕ → Instruction
field from place = gives (ops.Gep (elems.Layout 0) 64 (Some place)) Ptr (from ∷ literal 0 ∷ [])

abbrev pub compare : Pred → Operand → Operand → Instruction
compare pred left right = gives (ops.Icmp pred) Ptr (left ∷ right ∷ [])

abbrev pub zext : Operand → Instruction
zext operand = gives (ops.Zext 64) (Int 1) (operand ∷ [])

abbrev pub return_void : Instruction
return_void = does ops.Ret Void []

abbrev pub return : Operand → Instruction
return operand = does ops.Ret (Int 64) (operand ∷ [])

-- a function with one block
abbrev pub function : List ℕ → Ty → List Arg → List Instruction → Function
function name answer args insts = record { name = name; answer = answer; args = args; blocks = record { name = codes "0"; insts = insts } ∷ [] }

-- a module of this layout
abbrev pub module_of : Form → List Function → ModuleContent
module_of form funcs = record { layouts = node ∷ []; funcs = funcs; form = form }
