-- The plainest relocation: an object moves at the poll of a function that is called while a pointer to it is live.
use Rattle.std.proofs.Common.{◌≡◌, ℕ, ℤ, ◌^◌, Bool, true, false, List, [], ◌∷◌, Option, Some, None, refl, codes, pos}
use Rattle.std.specs.List.{concat}
use Rattle.std.specs.Fmt.{digits}
use Rattle.sp_ids.specs.declared.ends.End.{End}
use Rattle.ir_ast.specs.declared.cells.Cell.TheVariants as cells
use Rattle.ir_ast.specs.declared.modules.Form.TheVariants as form
use Rattle.ir_ast.specs.declared.ops.Callee.{Callee}
use Rattle.ir_ast.specs.declared.ops.Callee.TheVariants as callees
use Rattle.ir_ast.specs.declared.ops.Op.{Op}
use Rattle.ir_ast.specs.declared.ops.Op.TheVariants as ops
use Rattle.ir_ast.specs.declared.ops.Operand.{Operand}
use Rattle.ir_ast.specs.declared.ops.Operand.TheVariants.{Value, Int as Literal}
use Rattle.ir_ast.specs.declared.types.Ty.{Ty}
use Rattle.ir_ast.specs.declared.types.Ty.TheVariants.{Void, Int, Ptr, Token}
use Rattle.ir_ast.specs.Funcs.{Function}
use Rattle.ir_ast.specs.Insts.{Instruction}
use Rattle.ir_ast.specs.Modules.{ModuleContent}
use Rattle.ir_ast.specs.Sizes.{laid, size_of}
use Rattle.map_bytes.specs.declared.values.FuncEntry.{FuncEntry}
use Rattle.map_bytes.specs.declared.values.Place.{Place}
use Rattle.map_bytes.specs.Entries.{entries_of}
use Rattle.map_bytes.specs.Maps.{MapRecord, StackMap}
use Rattle.move_plan.specs.declared.plan_lines.PlanLine.{PlanLine}
use Rattle.move_plan.specs.declared.plan_lines.PlanLine.TheVariants.{Move}
use Rattle.object_meaning.specs.Accesses.{field_at}
use Rattle.object_meaning.specs.Effects.{Progress, printed_line}
use Rattle.object_meaning.specs.Runs.{Next, Go, End as Over, goes}
use Rattle.object_meaning.specs.Steps.{step}
use Rattle.machine_meaning.specs.Code.{machinery_of}
use Rattle.machine_meaning.specs.Machines.{Machine}
use Rattle.machine_meaning.specs.MachineSteps.{machine_step}
use Rattle.machine_meaning.specs.MachineRuns.{MachineOutcome, machine_opening, machine_outcome, machine_proceeds}
use Rattle.tool_report.specs.RunLines.{event_line, moved_line, place_line, slot_line}
use Rattle.run_texts.specs.RunTexts.{RunWrites, run_lines}

-- ---- by running

record Written (content : ModuleContent) (map : StackMap) (input : List ℤ) (plan : List PlanLine) (bound : ℕ) (places trace : Bool) (text : List ℕ) : Type 0 where
  outcome : MachineOutcome
  writes : RunWrites content map input plan bound places trace outcome text

module _ (content : ModuleContent) (map : StackMap) (input : List ℤ) (plan : List PlanLine) (bound : ℕ) (places trace : Bool) (within : ℕ) (text : List ℕ) where
  -- the text, if the run has come to its end
  abbrev found : Next End (Progress Machine) → Option (List ℕ)
  found (Go progress) = None
  found (Over end last) = Some (concat (run_lines content (machinery_of content map plan bound) places trace input within end last.state))

  writes_found : (next : Next End (Progress Machine)) → goes (machine_proceeds (machinery_of content map plan bound)) within (Go (machine_opening (machinery_of content map plan bound) input)) ≡ next
      → found next ≡ Some text → Written content map input plan bound places trace text
  writes_found (Go progress) by is = cc
  writes_found (Over end last) by is = record {
    outcome = machine_outcome (machinery_of content map plan bound) input within end last;
    writes = record { gives = record { last = last; run = record { within = within; by = by }; is = refl }; is = cc };
  }

  writes_within : found (goes (machine_proceeds (machinery_of content map plan bound)) within (Go (machine_opening (machinery_of content map plan bound) input))) ≡ Some text
      → Written content map input plan bound places trace text
  writes_within is = writes_found (goes (machine_proceeds (machinery_of content map plan bound)) within (Go (machine_opening (machinery_of content map plan bound) input))) refl is

-- ---- the run

abbrev value : ℕ → Operand
value number = Value (record { 0 = number })

-- a line with a result, and one without
abbrev gives : Op → Ty → List Operand → Instruction
gives op ty operands = record { result = Some []; op = op; ty = ty; operands = operands; labels = []; bundle = [] }

abbrev does : Op → Ty → List Operand → Instruction
does op ty operands = record { result = None; op = op; ty = ty; operands = operands; labels = []; bundle = [] }

abbrev statepoint : Callee → List Ty → List Operand → Instruction
statepoint callee types operands = gives (ops.Statepoint 2882400000 callee types) Token operands

abbrev check : Operand → Instruction
check base = does (ops.Call callees.Check (Ptr ∷ Ptr ∷ Int 64 ∷ [])) Void (base ∷ base ∷ Literal 0 ∷ [])

abbrev function : List ℕ → Ty → List Instruction → Function
function name answer insts = record { name = name; answer = answer; args = []; blocks = record { name = codes "0"; insts = insts } ∷ [] }

abbrev relocation : ModuleContent
relocation = record {
  layouts = record { name = codes "N"; fields = cells.I64 ∷ cells.Ptr ∷ [] } ∷ [];
  funcs = function (codes "f") Void (statepoint callees.Poll [] [] ∷ does ops.Ret Void [] ∷ [])
      ∷ function (codes "main") (Int 64)
      (statepoint callees.Poll [] []
      ∷ statepoint (callees.New 0) (Int 64 ∷ []) (Literal 1 ∷ [])
      ∷ gives ops.GcResult Ptr (value 1 ∷ [])
      ∷ check (value 2)
      ∷ does ops.Store (Int 64) (Literal 7 ∷ value 2 ∷ [])
      ∷ statepoint (callees.Fun (record { 0 = 0 })) [] (value 2 ∷ [])
      ∷ gives ops.GcRelocate Ptr (value 3 ∷ Literal 0 ∷ Literal 0 ∷ [])
      ∷ check (value 4)
      ∷ gives ops.Load (Int 64) (value 4 ∷ [])
      ∷ does (ops.Call callees.Print (Int 64 ∷ [])) Void (value 5 ∷ [])
      ∷ does ops.Ret (Int 64) (Literal 0 ∷ []) ∷ []) ∷ [];
  form = form.Rewritten;
}

abbrev constant : Place
constant = record { kind = 4; size = 8; register = 0; offset = pos 0 }

abbrev slot : Place
slot = record { kind = 3; size = 8; register = 7; offset = pos 0 }

abbrev kept : ℕ → List Place → MapRecord
kept offset slots = record { id = 2882400000; offset = offset; places = constant ∷ constant ∷ constant ∷ slots; live_outs = [] }

abbrev frames : ℕ → ℕ → ℕ → FuncEntry
frames address bytes records = record { address = address; frame_bytes = bytes; records = records }

abbrev relocation_map : StackMap
relocation_map = record {
  functions = frames 4096 0 1 ∷ frames 4112 8 3 ∷ [];
  constants = [];
  records = kept 4 [] ∷ kept 4 [] ∷ kept 12 [] ∷ kept 28 (slot ∷ slot ∷ []) ∷ [];
}

abbrev plan : List PlanLine
plan = Move 3 1 (2 ^ 40) ∷ []

abbrev shown_text : List ℕ
shown_text = codes "# 1 poll empty\n# 2 new empty\n# 3 poll legal\n# move 1 65536 1099511627776\n# slot 0 1 0 65536 1099511627776\n7\n= return 0 steps 3 events 3\n@ 1 %N 1 1099511627776\n"

shown : Written relocation relocation_map [] plan 1000 true true shown_text
unfolding machine_proceeds machine_step step laid size_of field_at entries_of digits printed_line event_line moved_line slot_line place_line
shown = writes_within relocation relocation_map [] plan 1000 true true 30 shown_text refl

abbrev bare_text : List ℕ
bare_text = codes "7\n= return 0 steps 3 events 3\n"

bare : Written relocation relocation_map [] plan 1000 false false bare_text
unfolding machine_proceeds machine_step step laid size_of field_at entries_of digits printed_line
bare = writes_within relocation relocation_map [] plan 1000 false false 30 bare_text refl
