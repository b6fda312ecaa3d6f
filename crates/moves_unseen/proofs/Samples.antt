-- A run in which an object moves under a frame that waits, in both meanings: at the call, at the event and behind it the machine
-- is what `machine_of` makes of the target meaning's state.
use Rattle.std.proofs.Common.{◌≡◌, ℕ, ◌-◌, ◌^◌, List, [], ◌∷◌, Some, None, refl, codes}
use Rattle.sp_ids.specs.declared.ends.End.{End}
use Rattle.ir_ast.specs.declared.cells.Cell.TheVariants as cells
use Rattle.ir_ast.specs.declared.modules.Form.TheVariants as form
use Rattle.ir_ast.specs.declared.ops.Callee.{Callee}
use Rattle.ir_ast.specs.declared.ops.Callee.TheVariants as callees
use Rattle.ir_ast.specs.declared.ops.Elem.TheVariants as elems
use Rattle.ir_ast.specs.declared.ops.Op.{Op}
use Rattle.ir_ast.specs.declared.ops.Op.TheVariants as ops
use Rattle.ir_ast.specs.declared.ops.Operand.{Operand}
use Rattle.ir_ast.specs.declared.ops.Operand.TheVariants as operands
use Rattle.ir_ast.specs.declared.funcs.Arg.{Arg}
use Rattle.ir_ast.specs.Layouts.{ObjectLayout}
use Rattle.ir_ast.specs.Funcs.{Function}
use Rattle.ir_ast.specs.Modules.{ModuleContent}
use Rattle.ir_ast.specs.declared.types.Ty.{Ty}
use Rattle.ir_ast.specs.declared.types.Ty.TheVariants.{Void, Int, Ptr, Token}
use Rattle.ir_ast.specs.Insts.{Instruction}
use Rattle.ir_ast.specs.Sizes.{laid, size_of}
use Rattle.map_bytes.specs.Entries.{entries_of}
use Rattle.move_plan.specs.declared.plan_lines.PlanLine.{PlanLine}
use Rattle.move_plan.specs.declared.plan_lines.PlanLine.TheVariants.{Move}
use Rattle.move_plan.specs.Plans.{go}
use Rattle.moving_heap.specs.Heaps.{HeapView}
use Rattle.object_meaning.specs.Accesses.{field_at}
use Rattle.object_meaning.specs.Effects.{Progress}
use Rattle.object_meaning.specs.Outcomes.{opening, proceeds}
use Rattle.object_meaning.specs.Runs.{Next, Go, goes}
use Rattle.object_meaning.specs.States.{State, Setting}
use Rattle.object_meaning.specs.Steps.{step}
use Rattle.object_meaning.specs.TargetRuns.{target_setting}
use Rattle.stackmap_write.specs.ModuleMaps.{map_of}
use Rattle.machine_meaning.specs.Code.{machinery_of}
use Rattle.machine_meaning.specs.Machines.{Machine, Machinery}
use Rattle.machine_meaning.specs.MachineRuns.{machine_opening, machine_proceeds}
use Rattle.machine_meaning.specs.MachineSteps.{machine_step}
use Rattle.moves_unseen.specs.Frames.{FrameWords}
use Rattle.moves_unseen.specs.States.{Extra, machine_of}

-- %N = type { i64, ptr addrspace(1) }
abbrev node : ObjectLayout
node = record { name = codes "N"; fields = cells.I64 ∷ cells.Ptr ∷ [] }

abbrev value : ℕ → Operand
value number = operands.Value (record { 0 = number })

abbrev literal : ℕ → Operand
literal number = operands.Int number

-- a line with a result, and one without
abbrev gives : Op → Ty → List Operand → Instruction
gives op ty operands = record { result = Some []; op = op; ty = ty; operands = operands; labels = []; bundle = [] }

abbrev does : Op → Ty → List Operand → Instruction
does op ty operands = record { result = None; op = op; ty = ty; operands = operands; labels = []; bundle = [] }

abbrev load : Ty → Operand → Instruction
load ty from = gives ops.Load ty (from ∷ [])

abbrev store : Ty → Operand → Operand → Instruction
store ty word to = does ops.Store ty (word ∷ to ∷ [])

-- getelementptr i8, ptr addrspace(1) from, i64 index
abbrev byte : Operand → ℕ → Instruction
byte from index = gives (ops.Gep (elems.Int 8) 64 None) Ptr (from ∷ literal index ∷ [])

abbrev print : Operand → Instruction
print operand = does (ops.Call callees.Print (Int 64 ∷ [])) Void (operand ∷ [])

abbrev return_void : Instruction
return_void = does ops.Ret Void []

abbrev return : Operand → Instruction
return operand = does ops.Ret (Int 64) (operand ∷ [])

-- a function with one block, and a module of such functions and this layout
abbrev function : List ℕ → Ty → List Arg → List Instruction → Function
function name answer args insts = record { name = name; answer = answer; args = args; blocks = record { name = codes "0"; insts = insts } ∷ [] }

abbrev rewritten : List Function → ModuleContent
rewritten funcs = record { layouts = node ∷ []; funcs = funcs; form = form.Rewritten }

-- a statepoint with these arguments and live entries
abbrev statepoint : Callee → List Ty → List Operand → Instruction
statepoint callee types operands = gives (ops.Statepoint 2882400000 callee types) Token operands

abbrev poll : List Operand → Instruction
poll live = statepoint callees.Poll [] live

abbrev new_cell : Instruction
new_cell = statepoint (callees.New 0) (Int 64 ∷ []) (literal 1 ∷ [])

abbrev result : ℕ → Instruction
result token = gives ops.GcResult Ptr (value token ∷ [])

-- of the statepoint with this token, by the places of base and derived among its live entries
abbrev relocate : ℕ → ℕ → ℕ → Instruction
relocate token base derived = gives ops.GcRelocate Ptr (value token ∷ literal base ∷ literal derived ∷ [])

abbrev check : Operand → Operand → ℕ → Instruction
check base address kind = does (ops.Call callees.Check (Ptr ∷ Ptr ∷ Int 64 ∷ [])) Void (base ∷ address ∷ literal kind ∷ [])

-- %3 lies 8 bytes before the object %2; both are kept over the call of @f, which polls, and read behind it as %6 and %5
abbrev kept_over : ModuleContent
kept_over = rewritten
    (function (codes "f") Void [] (poll [] ∷ return_void ∷ [])
    ∷ function (codes "main") (Int 64) []
    (poll [] ∷ new_cell ∷ result 1 ∷ check (value 2) (value 2) 0 ∷ store (Int 64) (literal 7) (value 2) ∷ byte (value 2) (2 ^ 64 - 8)
    ∷ statepoint (callees.Fun (record { 0 = 0 })) [] (value 2 ∷ value 3 ∷ []) ∷ relocate 4 0 0 ∷ relocate 4 0 1
    ∷ byte (value 6) 8 ∷ check (value 5) (value 7) 0 ∷ load (Int 64) (value 7) ∷ print (value 8) ∷ return (literal 0) ∷ []) ∷ [])

abbrev plan : List PlanLine
plan = Move 3 1 (2 ^ 40) ∷ []

abbrev setting : Setting
setting = target_setting kept_over (go plan) 1000

-- over the module's own map
abbrev machinery : Machinery
machinery = machinery_of kept_over (map_of kept_over) plan 1000

abbrev Is : Next End (Progress State) → Next End (Progress Machine) → Extra → Type 0
Is (Go here) (Go there) extra = there.state ≡ machine_of machinery here.state extra
Is _ _ extra = ⊥

-- so many steps from the opening
abbrev After : ℕ → Extra → Type 0
After count extra = Is (goes (proceeds setting) count (Go (opening setting []))) (goes (machine_proceeds machinery) count (Go (machine_opening machinery []))) extra

abbrev heap_at : ℕ → ℕ → HeapView
heap_at address word = record {
  stands = record { number = 1; size = 16; address = address } ∷ [];
  contents = record { layout = 0; count = 1; kinds = cells.I64 ∷ cells.Ptr ∷ []; words = word ∷ 0 ∷ [] } ∷ [];
  moves = [];
}

abbrev of_f : FrameWords
of_f = record { words = 0 ∷ []; slots = [] }

at_the_opening : After 0 (record {
  running = record { words = 0 ∷ 0 ∷ 0 ∷ 0 ∷ 0 ∷ 0 ∷ 0 ∷ 0 ∷ 0 ∷ []; slots = 0 ∷ 0 ∷ [] };
  below = [];
  tasks = [] ∷ [];
  heap = record { stands = []; contents = []; moves = [] };
})
unfolding proceeds machine_proceeds machine_step step laid size_of field_at entries_of
at_the_opening = refl

behind_the_store : After 4 (record {
  running = record { words = 0 ∷ 0 ∷ 65536 ∷ 0 ∷ 0 ∷ 0 ∷ 0 ∷ 0 ∷ 0 ∷ []; slots = 0 ∷ 0 ∷ [] };
  below = [];
  tasks = [] ∷ [];
  heap = heap_at 65536 7;
})
unfolding proceeds machine_proceeds machine_step step laid size_of field_at entries_of
behind_the_store = refl

-- @main waits with both pointers in its slots
in_the_call : After 6 (record {
  running = of_f;
  below = record { words = 0 ∷ 0 ∷ 65536 ∷ 65528 ∷ 0 ∷ 0 ∷ 0 ∷ 0 ∷ 0 ∷ []; slots = 65536 ∷ 65528 ∷ [] } ∷ [];
  tasks = [] ∷ [];
  heap = heap_at 65536 7;
})
unfolding proceeds machine_proceeds machine_step step laid size_of field_at entries_of
in_the_call = refl

-- the object moved: the slots went with it, the registers didn't
behind_the_event : After 7 (record {
  running = of_f;
  below = record { words = 0 ∷ 0 ∷ 65536 ∷ 65528 ∷ 0 ∷ 0 ∷ 0 ∷ 0 ∷ 0 ∷ []; slots = (2 ^ 40) ∷ (2 ^ 40 - 8) ∷ [] } ∷ [];
  tasks = [] ∷ [];
  heap = heap_at (2 ^ 40) 7;
})
unfolding proceeds machine_proceeds machine_step step laid size_of field_at entries_of
behind_the_event = refl

-- the relocates are read from the slots
behind_the_call : After 8 (record {
  running = record { words = 0 ∷ 0 ∷ 65536 ∷ 65528 ∷ 0 ∷ (2 ^ 40) ∷ (2 ^ 40 - 8) ∷ 0 ∷ 0 ∷ []; slots = (2 ^ 40) ∷ (2 ^ 40 - 8) ∷ [] };
  below = [];
  tasks = [] ∷ [];
  heap = heap_at (2 ^ 40) 7;
})
unfolding proceeds machine_proceeds machine_step step laid size_of field_at entries_of
behind_the_call = refl
