-- An object and a pointer before its first byte, kept over a call in which the object moves.
use Rattle.std.proofs.Common.{ℕ, ◌+◌, ◌-◌, ◌^◌, List, [], ◌∷◌, refl, codes, pos}
use Rattle.sp_ids.specs.declared.ends.End.TheVariants as ended
use Rattle.ir_ast.specs.declared.cells.Cell.TheVariants as cells
use Rattle.ir_ast.specs.declared.ops.Callee.TheVariants as callees
use Rattle.ir_ast.specs.declared.types.Ty.TheVariants.{Void, Int, Ptr}
use Rattle.ir_ast.specs.Modules.{ModuleContent}
use Rattle.ir_ast.specs.Sizes.{laid, size_of}
use Rattle.map_bytes.specs.Entries.{entries_of}
use Rattle.map_bytes.specs.Maps.{StackMap}
use Rattle.move_plan.specs.declared.plan_lines.PlanLine.{PlanLine}
use Rattle.move_plan.specs.declared.plan_lines.PlanLine.TheVariants.{Move}
use Rattle.moving_heap.specs.declared.stands.Verdict.TheVariants.{Empty, Legal, Illegal}
use Rattle.object_meaning.specs.Accesses.{field_at}
use Rattle.object_meaning.specs.Effects.{printed_line}
use Rattle.object_meaning.specs.Steps.{step}
use Rattle.object_meaning.specs.Traces.{at_new, at_poll, reads, writes}
use Rattle.machine_meaning.specs.Code.{machinery_of}
use Rattle.machine_meaning.specs.MachineSteps.{machine_step}
use Rattle.machine_meaning.specs.MachineRuns.{MachineOutcome, MachineGives, machine_proceeds}
use Rattle.machine_meaning.proofs.OutcomeLaws.{gives_within}
use Rattle.machine_meaning.proofs.Samples.{rewritten, function, value, literal, byte, next_field, load, store, print, return, return_void, statepoint, poll, new_cell, result, relocate, check, slot, kept, frames}

-- %q lies 8 bytes before the object %o; both are kept over the call of @f, and the cell is read at %q and 8 bytes. `base` and
-- `derived` are the registers that are read behind the call
abbrev exterior : ℕ → ℕ → ModuleContent
exterior base derived = rewritten
    (function (codes "f") Void [] (poll [] ∷ return_void ∷ [])
    ∷ function (codes "main") (Int 64) []
    (poll [] ∷ new_cell ∷ result 1 ∷ check (value 2) (value 2) 0 ∷ store (Int 64) (literal 7) (value 2) ∷ byte (value 2) (2 ^ 64 - 8)
    ∷ statepoint (callees.Fun (record { 0 = 0 })) [] (value 2 ∷ value 3 ∷ []) ∷ relocate 4 0 0 ∷ relocate 4 0 1
    ∷ byte (value derived) 8 ∷ check (value base) (value 7) 0 ∷ load (Int 64) (value 7) ∷ print (value 8) ∷ return (literal 0) ∷ []) ∷ [])

-- the last record stands at this offset
abbrev map_of : ℕ → StackMap
map_of last = record {
  functions = frames 4096 0 1 ∷ frames 4112 16 3 ∷ [];
  constants = [];
  records = kept 4 [] ∷ kept 4 [] ∷ kept 12 [] ∷ kept last (slot 0 ∷ slot 0 ∷ slot 0 ∷ slot 8 ∷ []) ∷ [];
}

abbrev plan : List PlanLine
plan = Move 3 1 (2 ^ 40) ∷ []

-- the object moves, and the pointer before it too, though no object owns its address
abbrev relocated_outcome : MachineOutcome
relocated_outcome = record {
  lines = printed_line 7 ∷ [];
  end = ended.Return (pos 0);
  func = 1;
  steps = 3;
  events = 3;
  printed = 1;
  happened = record { event = at_poll; verdict = Empty; moves = []; slots = [] }
      ∷ record { event = at_new; verdict = Empty; moves = []; slots = [] }
      ∷ record {
        event = at_poll;
        verdict = Legal;
        moves = record { object = 1; old = 65536; new = 1099511627776 } ∷ [];
        slots = record { task = 0; frame = 1; offset = 0; old = 65536; new = 1099511627776 }
            ∷ record { task = 0; frame = 1; offset = 8; old = 65528; new = 1099511627768 } ∷ [];
      } ∷ [];
  accesses = writes 1 0 ∷ reads 1 0 ∷ [];
  heap = record {
    stands = record { number = 1; size = 16; address = 1099511627776 } ∷ [];
    contents = record { layout = 0; count = 1; kinds = cells.I64 ∷ cells.Ptr ∷ []; words = 7 ∷ 0 ∷ [] } ∷ [];
    moves = [];
  };
}

relocated : MachineGives (exterior 5 6) (map_of 36) [] plan 1000 relocated_outcome
unfolding machine_proceeds machine_step step laid size_of field_at entries_of
relocated = gives_within (machinery_of (exterior 5 6) (map_of 36) plan 1000) [] 30 relocated_outcome refl

-- a stale use: the registers of before the call are read, and no object stands at the base any more
stale : MachineGives (exterior 2 3) (map_of 36) [] plan 1000
    (record relocated_outcome { lines = []; end = ended.Poison; steps = 2; printed = 0; accesses = writes 1 0 ∷ [] })
unfolding machine_proceeds machine_step step laid size_of field_at entries_of
stale = gives_within (machinery_of (exterior 2 3) (map_of 36) plan 1000) [] 30
    (record relocated_outcome { lines = []; end = ended.Poison; steps = 2; printed = 0; accesses = writes 1 0 ∷ [] }) refl

-- the heap when nothing has moved
abbrev stayed : MachineOutcome
stayed = record relocated_outcome {
  heap = record {
    stands = record { number = 1; size = 16; address = 65536 } ∷ [];
    contents = record { layout = 0; count = 1; kinds = cells.I64 ∷ cells.Ptr ∷ []; words = 7 ∷ 0 ∷ [] } ∷ [];
    moves = [];
  };
}

-- a forged map, whose last record stands elsewhere: the event is shown with its moves, and then the frame of @main is lost
abbrev lost_outcome : MachineOutcome
lost_outcome = record stayed {
  lines = [];
  end = ended.LostFrame;
  func = 0;
  steps = 1;
  printed = 0;
  happened = record { event = at_poll; verdict = Empty; moves = []; slots = [] }
      ∷ record { event = at_new; verdict = Empty; moves = []; slots = [] }
      ∷ record { event = at_poll; verdict = Legal; moves = record { object = 1; old = 65536; new = 1099511627776 } ∷ []; slots = [] } ∷ [];
  accesses = writes 1 0 ∷ [];
}

lost : MachineGives (exterior 5 6) (map_of 40) [] plan 1000 lost_outcome
unfolding machine_proceeds machine_step step laid size_of field_at entries_of
lost = gives_within (machinery_of (exterior 5 6) (map_of 40) plan 1000) [] 30 lost_outcome refl

-- one line names an object that doesn't exist: nothing moves
abbrev illegal_plan : List PlanLine
illegal_plan = Move 3 1 (2 ^ 40) ∷ Move 3 2 (2 ^ 40 + 16) ∷ []

abbrev illegal_outcome : MachineOutcome
illegal_outcome = record stayed {
  happened = record { event = at_poll; verdict = Empty; moves = []; slots = [] }
      ∷ record { event = at_new; verdict = Empty; moves = []; slots = [] }
      ∷ record { event = at_poll; verdict = Illegal; moves = []; slots = [] } ∷ [];
}

illegal : MachineGives (exterior 5 6) (map_of 36) [] illegal_plan 1000 illegal_outcome
unfolding machine_proceeds machine_step step laid size_of field_at entries_of
illegal = gives_within (machinery_of (exterior 5 6) (map_of 36) illegal_plan 1000) [] 30 illegal_outcome refl

-- an object that points to another, and has an integer that looks like the other's address. They change places
abbrev cells_of : ModuleContent
cells_of = rewritten
    (function (codes "f") Void [] (poll [] ∷ return_void ∷ [])
    ∷ function (codes "main") (Int 64) []
    (poll [] ∷ new_cell ∷ result 1 ∷ statepoint (callees.New 0) (Int 64 ∷ []) (literal 1 ∷ value 2 ∷ []) ∷ result 3 ∷ relocate 3 0 0
    ∷ next_field (value 5) ∷ check (value 5) (value 6) 1 ∷ store Ptr (value 4) (value 6)
    ∷ check (value 5) (value 5) 0 ∷ store (Int 64) (literal 65552) (value 5) ∷ check (value 4) (value 4) 0 ∷ store (Int 64) (literal 9) (value 4)
    ∷ statepoint (callees.Fun (record { 0 = 0 })) [] (value 5 ∷ []) ∷ relocate 7 0 0
    ∷ next_field (value 8) ∷ check (value 8) (value 9) 1 ∷ load Ptr (value 9) ∷ check (value 10) (value 10) 0 ∷ load (Int 64) (value 10) ∷ print (value 11)
    ∷ load (Int 64) (value 8) ∷ print (value 12) ∷ return (literal 0) ∷ []) ∷ [])

abbrev cells_map : StackMap
cells_map = record {
  functions = frames 4096 0 1 ∷ frames 4112 8 4 ∷ [];
  constants = [];
  records = kept 4 [] ∷ kept 4 [] ∷ kept 12 [] ∷ kept 24 (slot 0 ∷ slot 0 ∷ []) ∷ kept 60 (slot 0 ∷ slot 0 ∷ []) ∷ [];
}

abbrev swap : List PlanLine
swap = Move 4 1 1099511627792 ∷ Move 4 2 1099511627776 ∷ []

abbrev swapped_outcome : MachineOutcome
swapped_outcome = record {
  lines = printed_line 9 ∷ printed_line 65552 ∷ [];
  end = ended.Return (pos 0);
  func = 1;
  steps = 3;
  events = 4;
  printed = 2;
  happened = record { event = at_poll; verdict = Empty; moves = []; slots = [] }
      ∷ record { event = at_new; verdict = Empty; moves = []; slots = [] }
      ∷ record { event = at_new; verdict = Empty; moves = []; slots = [] }
      ∷ record {
        event = at_poll;
        verdict = Legal;
        moves = record { object = 1; old = 65536; new = 1099511627792 } ∷ record { object = 2; old = 65552; new = 1099511627776 } ∷ [];
        slots = record { task = 0; frame = 1; offset = 0; old = 65536; new = 1099511627792 } ∷ [];
      } ∷ [];
  accesses = writes 1 8 ∷ writes 1 0 ∷ writes 2 0 ∷ reads 1 8 ∷ reads 2 0 ∷ reads 1 0 ∷ [];
  heap = record {
    stands = record { number = 1; size = 16; address = 1099511627792 } ∷ record { number = 2; size = 16; address = 1099511627776 } ∷ [];
    contents = record { layout = 0; count = 1; kinds = cells.I64 ∷ cells.Ptr ∷ []; words = 65552 ∷ 1099511627776 ∷ [] }
        ∷ record { layout = 0; count = 1; kinds = cells.I64 ∷ cells.Ptr ∷ []; words = 9 ∷ 0 ∷ [] } ∷ [];
    moves = [];
  };
}

swapped : MachineGives cells_of cells_map [] swap 1000 swapped_outcome
unfolding machine_proceeds machine_step step laid size_of field_at entries_of
swapped = gives_within (machinery_of cells_of cells_map swap 1000) [] 40 swapped_outcome refl
