-- Modules that are run by the definition of the machine, to see that it says what was meant.
use Rattle.std.proofs.Common.{ℕ, ◌*◌, List, [], ◌∷◌, ◌++◌, Option, Some, None, codes, pos}
use Rattle.ir_ast.specs.declared.cells.Cell.TheVariants as cells
use Rattle.ir_ast.specs.declared.modules.Form.TheVariants as form
use Rattle.ir_ast.specs.declared.ops.Callee.{Callee}
use Rattle.ir_ast.specs.declared.ops.Callee.TheVariants as callees
use Rattle.ir_ast.specs.declared.ops.Elem.TheVariants as elems
use Rattle.ir_ast.specs.declared.ops.Op.{Op}
use Rattle.ir_ast.specs.declared.ops.Op.TheVariants as ops
use Rattle.ir_ast.specs.declared.ops.Operand.{Operand}
use Rattle.ir_ast.specs.declared.ops.Operand.TheVariants as operands
use Rattle.ir_ast.specs.declared.funcs.Arg.{Arg}
use Rattle.ir_ast.specs.Layouts.{ObjectLayout}
use Rattle.ir_ast.specs.Funcs.{Function}
use Rattle.ir_ast.specs.Modules.{ModuleContent}
use Rattle.ir_ast.specs.declared.types.Ty.{Ty}
use Rattle.ir_ast.specs.declared.types.Ty.TheVariants.{Void, Int, Ptr, Token}
use Rattle.ir_ast.specs.Insts.{Instruction}
use Rattle.map_bytes.specs.declared.values.FuncEntry.{FuncEntry}
use Rattle.map_bytes.specs.declared.values.Place.{Place}
use Rattle.map_bytes.specs.Maps.{MapRecord}
pub mod Moves
pub mod Tasks
pub mod Places
pub mod Bundles

-- %N = type { i64, ptr addrspace(1) }
abbrev pub node : ObjectLayout
node = record { name = codes "N"; fields = cells.I64 ∷ cells.Ptr ∷ [] }

abbrev pub value : ℕ → Operand
value number = operands.Value (record { 0 = number })

abbrev pub literal : ℕ → Operand
literal number = operands.Int number

-- a line with a result, and one without
abbrev pub gives : Op → Ty → List Operand → Instruction
gives op ty operands = record { result = Some []; op = op; ty = ty; operands = operands; labels = []; bundle = [] }

abbrev pub does : Op → Ty → List Operand → Instruction
does op ty operands = record { result = None; op = op; ty = ty; operands = operands; labels = []; bundle = [] }

abbrev pub load : Ty → Operand → Instruction
load ty from = gives ops.Load ty (from ∷ [])

abbrev pub store : Ty → Operand → Operand → Instruction
store ty word to = does ops.Store ty (word ∷ to ∷ [])

-- getelementptr i8, ptr addrspace(1) from, i64 index
abbrev pub byte : Operand → ℕ → Instruction
byte from index = gives (ops.Gep (elems.Int 8) 64 None) Ptr (from ∷ literal index ∷ [])

-- getelementptr %N, ptr addrspace(1) from, i64 0, i32 1
abbrev pub next_field : Operand → Instruction
next_field from = gives (ops.Gep (elems.Layout 0) 64 (Some 1)) Ptr (from ∷ literal 0 ∷ [])

abbrev pub print : Operand → Instruction
print operand = does (ops.Call callees.Print (Int 64 ∷ [])) Void (operand ∷ [])

abbrev pub return_void : Instruction
return_void = does ops.Ret Void []

abbrev pub return : Operand → Instruction
return operand = does ops.Ret (Int 64) (operand ∷ [])

-- a function with one block, and a module of such functions and this layout
abbrev pub function : List ℕ → Ty → List Arg → List Instruction → Function
function name answer args insts = record { name = name; answer = answer; args = args; blocks = record { name = codes "0"; insts = insts } ∷ [] }

abbrev pub rewritten : List Function → ModuleContent
rewritten funcs = record { layouts = node ∷ []; funcs = funcs; form = form.Rewritten }

-- a statepoint with these arguments and live entries
abbrev pub statepoint : Callee → List Ty → List Operand → Instruction
statepoint callee types operands = gives (ops.Statepoint 2882400000 callee types) Token operands

abbrev pub poll : List Operand → Instruction
poll live = statepoint callees.Poll [] live

abbrev pub new_cell : Instruction
new_cell = statepoint (callees.New 0) (Int 64 ∷ []) (literal 1 ∷ [])

abbrev pub result : ℕ → Instruction
result token = gives ops.GcResult Ptr (value token ∷ [])

-- of the statepoint with this token, by the places of base and derived among its live entries
abbrev pub relocate : ℕ → ℕ → ℕ → Instruction
relocate token base derived = gives ops.GcRelocate Ptr (value token ∷ literal base ∷ literal derived ∷ [])

abbrev pub check : Operand → Operand → ℕ → Instruction
check base address kind = does (ops.Call callees.Check (Ptr ∷ Ptr ∷ Int 64 ∷ [])) Void (base ∷ address ∷ literal kind ∷ [])

-- ---- maps

abbrev pub constant : Place
constant = record { kind = 4; size = 8; register = 0; offset = pos 0 }

abbrev pub slot : ℕ → Place
slot offset = record { kind = 3; size = 8; register = 7; offset = pos offset }

-- the record of a call that returns so many bytes behind its function's start, with these pairs of slots
abbrev pub kept : ℕ → List Place → MapRecord
kept offset slots = record { id = 2882400000; offset = offset; places = constant ∷ constant ∷ constant ∷ slots; live_outs = [] }

abbrev pub frames : ℕ → ℕ → ℕ → FuncEntry
frames address bytes records = record { address = address; frame_bytes = bytes; records = records }
