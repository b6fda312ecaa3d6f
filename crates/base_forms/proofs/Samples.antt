-- Functions with their polls, bases and checks, by computation.
use Rattle.std.proofs.Common.{ℕ, List, [], ◌∷◌, map, Option, Some, None, codes}
use Rattle.sp_ids.specs.declared.ids.BlockId.{BlockId}
use Rattle.ir_ast.specs.declared.ops.Callee.TheVariants as callees
use Rattle.ir_ast.specs.declared.ops.Elem.TheVariants as elems
use Rattle.ir_ast.specs.declared.ops.Pred.{Pred}
use Rattle.ir_ast.specs.declared.ops.Op.{Op}
use Rattle.ir_ast.specs.declared.ops.Op.TheVariants as ops
use Rattle.ir_ast.specs.declared.ops.Operand.{Operand}
use Rattle.ir_ast.specs.declared.ops.Operand.TheVariants as operands
use Rattle.ir_ast.specs.declared.types.Ty.{Ty}
use Rattle.ir_ast.specs.declared.types.Ty.TheVariants.{Void, Int, Ptr}
use Rattle.ir_ast.specs.Insts.{Instruction}
use Rattle.ir_ast.specs.Blocks.{BasicBlock}
use Rattle.ir_ast.specs.Funcs.{Function}
pub mod Merges
pub mod Compares
pub mod Loops

abbrev pub value : ℕ → Operand
value number = operands.Value (record { 0 = number })

abbrev pub literal : ℕ → Operand
literal number = operands.Int number

abbrev pub line : Option (List ℕ) → Op → Ty → List Operand → List ℕ → Instruction
line result op ty operands labels =
    record { result = result; op = op; ty = ty; operands = operands; labels = map (λ label. record { 0 = label }) labels; bundle = [] }

abbrev pub gives : List ℕ → Op → Ty → List Operand → Instruction
gives name op ty operands = line (Some name) op ty operands []

abbrev pub does : Op → Ty → List Operand → Instruction
does op ty operands = line None op ty operands []

abbrev pub new : List ℕ → Instruction
new name = gives name (ops.Call (callees.New 0) (Int 64 ∷ [])) Ptr (literal 1 ∷ [])

abbrev pub read : List ℕ → Instruction
read name = gives name (ops.Call callees.Read []) (Int 64) []

abbrev pub print : Operand → Instruction
print operand = does (ops.Call callees.Print (Int 64 ∷ [])) Void (operand ∷ [])

abbrev pub call : Instruction
call = does (ops.Call (callees.Fun (record { 0 = 0 })) []) Void []

abbrev pub poll : Instruction
poll = does (ops.Call callees.Poll []) Void []

abbrev pub check : Operand → Operand → ℕ → Instruction
check base address kind =
    does (ops.Call callees.Check (Ptr ∷ Ptr ∷ Int 64 ∷ [])) Void (base ∷ address ∷ literal kind ∷ [])

abbrev pub same : List ℕ → Operand → Operand → Operand → Operand → Instruction
same name base address other_base other =
    gives name (ops.Call callees.Same (Ptr ∷ Ptr ∷ Ptr ∷ Ptr ∷ [])) (Int 1) (base ∷ address ∷ other_base ∷ other ∷ [])

abbrev pub load : List ℕ → Ty → Operand → Instruction
load name ty from = gives name ops.Load ty (from ∷ [])

abbrev pub store : Ty → Operand → Operand → Instruction
store ty word to = does ops.Store ty (word ∷ to ∷ [])

-- getelementptr %N, ptr addrspace(1) from, i64 0, i32 place
abbrev pub field : List ℕ → Operand → ℕ → Instruction
field name from place = gives name (ops.Gep (elems.Layout 0) 64 (Some place)) Ptr (from ∷ literal 0 ∷ [])

-- getelementptr i8, ptr addrspace(1) from, i64 index
abbrev pub byte : List ℕ → Operand → ℕ → Instruction
byte name from index = gives name (ops.Gep (elems.Int 8) 64 None) Ptr (from ∷ literal index ∷ [])

abbrev pub compare : List ℕ → Pred → Ty → Operand → Operand → Instruction
compare name pred ty left right = gives name (ops.Icmp pred) ty (left ∷ right ∷ [])

abbrev pub phi : List ℕ → Ty → List Operand → List ℕ → Instruction
phi name ty operands labels = line (Some name) ops.Phi ty operands labels

abbrev pub select : List ℕ → Operand → Operand → Operand → Instruction
select name condition first second = gives name ops.Select Ptr (condition ∷ first ∷ second ∷ [])

abbrev pub jump : ℕ → Instruction
jump to = line None ops.Br Void [] (to ∷ [])

abbrev pub branch : Operand → ℕ → ℕ → Instruction
branch condition first second = line None ops.CondBr (Int 1) (condition ∷ []) (first ∷ second ∷ [])

abbrev pub return : Operand → Instruction
return operand = does ops.Ret (Int 64) (operand ∷ [])

abbrev pub block : List ℕ → List Instruction → BasicBlock
block name insts = record { name = name; insts = insts }

abbrev pub main : List BasicBlock → Function
main blocks = record { name = codes "main"; answer = Int 64; args = []; blocks = blocks }
