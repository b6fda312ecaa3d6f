-- Two tasks. One waits at its poll, with a pointer before its object, while the other runs and the object moves three times.
use Rattle.std.proofs.Common.{◌-◌, ◌^◌, List, [], ◌∷◌, refl, codes, pos}
use Rattle.sp_ids.specs.declared.ends.End.TheVariants as ended
use Rattle.ir_ast.specs.declared.cells.Cell.TheVariants as cells
use Rattle.ir_ast.specs.declared.ops.Callee.TheVariants as callees
use Rattle.ir_ast.specs.declared.ops.Operand.{Operand}
use Rattle.ir_ast.specs.declared.ops.Operand.TheVariants.{Fun}
use Rattle.ir_ast.specs.declared.types.Ty.TheVariants.{Void, Int, Ptr}
use Rattle.ir_ast.specs.Insts.{Instruction}
use Rattle.ir_ast.specs.Modules.{ModuleContent}
use Rattle.ir_ast.specs.Sizes.{laid, size_of}
use Rattle.map_bytes.specs.Entries.{entries_of}
use Rattle.map_bytes.specs.Maps.{StackMap}
use Rattle.move_plan.specs.declared.plan_lines.PlanLine.{PlanLine}
use Rattle.move_plan.specs.declared.plan_lines.PlanLine.TheVariants.{Move, Flip, Go}
use Rattle.moving_heap.specs.declared.stands.Verdict.TheVariants.{Empty, Legal}
use Rattle.object_meaning.specs.Accesses.{field_at}
use Rattle.object_meaning.specs.Effects.{printed_line}
use Rattle.object_meaning.specs.Steps.{step}
use Rattle.object_meaning.specs.Traces.{at_new, at_poll, reads, writes}
use Rattle.machine_meaning.specs.Code.{machinery_of}
use Rattle.machine_meaning.specs.MachineSteps.{machine_step}
use Rattle.machine_meaning.specs.MachineRuns.{MachineOutcome, MachineGives, machine_proceeds}
use Rattle.machine_meaning.proofs.OutcomeLaws.{gives_within}
use Rattle.machine_meaning.proofs.Samples.{rewritten, function, value, literal, byte, load, store, print, return, return_void, statepoint, poll, new_cell, result, relocate, check, slot, kept, frames}

abbrev to_f : List Operand → Instruction
to_f live = statepoint (callees.Fun (record { 0 = 0 })) [] live

abbrev tasks : ModuleContent
tasks = rewritten
    (function (codes "f") Void [] (poll [] ∷ return_void ∷ [])
    ∷ function (codes "main") (Int 64) []
    (poll [] ∷ new_cell ∷ result 1 ∷ check (value 2) (value 2) 0 ∷ store (Int 64) (literal 5) (value 2)
    ∷ statepoint callees.TaskStart (Void ∷ Ptr ∷ []) (Fun (record { 0 = 2 }) ∷ value 2 ∷ []) ∷ to_f [] ∷ print (literal 1) ∷ return (literal 0) ∷ [])
    ∷ function (codes "w") Void (record { name = codes "o"; ty = Ptr } ∷ [])
    (byte (value 0) (2 ^ 64 - 8) ∷ poll (value 0 ∷ value 1 ∷ []) ∷ relocate 2 0 0 ∷ relocate 2 0 1
    ∷ byte (value 4) 8 ∷ check (value 3) (value 5) 0 ∷ load (Int 64) (value 5) ∷ print (value 6)
    ∷ to_f (value 3 ∷ value 4 ∷ []) ∷ relocate 7 0 1 ∷ relocate 7 0 0
    ∷ byte (value 8) 8 ∷ check (value 9) (value 10) 0 ∷ load (Int 64) (value 10) ∷ print (value 11) ∷ return_void ∷ []) ∷ [])

abbrev map_of : StackMap
map_of = record {
  functions = frames 4096 0 1 ∷ frames 4112 0 4 ∷ frames 4160 16 2 ∷ [];
  constants = [];
  records = kept 4 [] ∷ kept 4 [] ∷ kept 12 [] ∷ kept 24 [] ∷ kept 28 []
      ∷ kept 16 (slot 0 ∷ slot 0 ∷ slot 0 ∷ slot 8 ∷ []) ∷ kept 44 (slot 0 ∷ slot 8 ∷ slot 0 ∷ slot 0 ∷ []) ∷ [];
}

-- at event 3 task 0 goes on, at event 4 task 1, each behind the moves of its event
abbrev plan : List PlanLine
plan = Move 3 1 (2 ^ 40) ∷ Go 3 0 ∷ Flip 4 ∷ Go 4 1 ∷ Move 5 1 (2 ^ 41) ∷ []

abbrev tasks_outcome : MachineOutcome
tasks_outcome = record {
  lines = printed_line 5 ∷ printed_line 5 ∷ printed_line 1 ∷ [];
  end = ended.Return (pos 0);
  func = 1;
  steps = 6;
  events = 5;
  printed = 3;
  happened = record { event = at_poll; verdict = Empty; moves = []; slots = [] }
      ∷ record { event = at_new; verdict = Empty; moves = []; slots = [] }
      ∷ record {
        event = at_poll;
        verdict = Legal;
        moves = record { object = 1; old = 65536; new = 2 ^ 40 } ∷ [];
        slots = record { task = 1; frame = 0; offset = 0; old = 65536; new = 2 ^ 40 } ∷ record { task = 1; frame = 0; offset = 8; old = 65528; new = 2 ^ 40 - 8 } ∷ [];
      }
      ∷ record {
        event = at_poll;
        verdict = Legal;
        moves = record { object = 1; old = 2 ^ 40; new = 2 ^ 45 } ∷ [];
        slots = record { task = 1; frame = 0; offset = 0; old = 2 ^ 40; new = 2 ^ 45 } ∷ record { task = 1; frame = 0; offset = 8; old = 2 ^ 40 - 8; new = 2 ^ 45 - 8 } ∷ [];
      }
      ∷ record {
        event = at_poll;
        verdict = Legal;
        moves = record { object = 1; old = 2 ^ 45; new = 2 ^ 41 } ∷ [];
        slots = record { task = 1; frame = 1; offset = 8; old = 2 ^ 45 - 8; new = 2 ^ 41 - 8 } ∷ record { task = 1; frame = 1; offset = 0; old = 2 ^ 45; new = 2 ^ 41 } ∷ [];
      } ∷ [];
  accesses = writes 1 0 ∷ reads 1 0 ∷ reads 1 0 ∷ [];
  heap = record {
    stands = record { number = 1; size = 16; address = 2 ^ 41 } ∷ [];
    contents = record { layout = 0; count = 1; kinds = cells.I64 ∷ cells.Ptr ∷ []; words = 5 ∷ 0 ∷ [] } ∷ [];
    moves = [];
  };
}

tasks_give : MachineGives tasks map_of [] plan 1000 tasks_outcome
unfolding machine_proceeds machine_step step laid size_of field_at entries_of
tasks_give = gives_within (machinery_of tasks map_of plan 1000) [] 60 tasks_outcome refl
