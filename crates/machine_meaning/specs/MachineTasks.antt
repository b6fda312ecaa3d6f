-- Polls, new objects, and tasks that start and end.
use Rattle.std.specs.Prelude.{ℕ, ◌==◌, if◌then◌else◌, ℤ, List, [], ◌∷◌, ◌++◌, replicate, unsigned_abs, Option, Some, slice_get, slice_set, slice_index_or, Result, Ok, Err}
use Rattle.std.specs.Option.{option_map_or}
use Rattle.sp_ids.specs.declared.ends.End.TheVariants.{Return, Trap}
use Rattle.sp_ids.specs.declared.ends.Trap.TheVariants.{Count, Full, Unreachable}
use Rattle.sp_ids.specs.Numbers.{signed}
use Rattle.ir_ast.specs.declared.cells.Cell.{Cell}
use Rattle.ir_ast.specs.Objects.{Datum, number}
use Rattle.moving_heap.specs.declared.heap.AllocFault.{AllocFault}
use Rattle.moving_heap.specs.declared.heap.AllocFault.TheVariants.{Count as Negative}
use Rattle.moving_heap.specs.Heaps.{alloc_answer, with_object}
use Rattle.object_meaning.specs.Registers.{nothing, number_in}
use Rattle.object_meaning.specs.States.{Frame}
use Rattle.object_meaning.specs.Effects.{Effect, goes_on, ends}
use Rattle.object_meaning.specs.Tasks.{switched_to, started}
use Rattle.machine_meaning.specs.Machines.{Machine, Machinery, lifted, then_on, gone_on}

-- the running frame stays at its call, and another task is the running one
abbrev pub switched_machine : Machine → ℕ → Option (List Frame) → Machine
switched_machine machine to (Some (frame ∷ below)) = record machine {
  state = switched_to machine.state to (Some (frame ∷ below));
  stack = slice_index_or machine.stacks to [];
  stacks = slice_set (slice_set machine.stacks machine.state.task machine.stack) to [];
}
switched_machine machine to _ = machine

-- the `go` line of a poll holds, and the task that runs then goes on behind its own call
abbrev pub polled_machine : Machinery → Machine → Machine
polled_machine machinery machine =
    gone_on nothing
    (option_map_or (λ to. switched_machine machine to (slice_get machine.state.tasks to)) (machinery.setting.go machine.state.events) machine)

abbrev pub allocated_machine : Machine → ℕ → List Cell → ℕ → Result ℕ AllocFault → Effect Machine
allocated_machine machine layout fields count (Ok address) =
    goes_on (gone_on (number address) (record machine { heap = with_object machine.heap layout fields count }))
allocated_machine machine layout fields count (Err Negative) = ends (Trap Count) machine
allocated_machine machine layout fields count (Err fault) = ends (Trap Full) machine

abbrev pub allocating_machine : Machine → ℕ → List Cell → ℤ → Effect Machine
allocating_machine machine layout fields count =
    allocated_machine machine layout fields (unsigned_abs count) (alloc_answer machine.heap fields count)

-- the frame of a function that is called: its words, each 0, and the return address behind them
abbrev pub new_frame : Machinery → ℕ → ℕ → List ℕ
new_frame machinery func address = replicate (machinery.frame_words func) 0 ++ address ∷ []

abbrev pub pushed : Machinery → ℕ → ℕ → Machine → Machine
pushed machinery func address machine = record machine { stack = new_frame machinery func address ++ machine.stack }

-- a new task has one frame, whose return address is 0
abbrev pub started_machine : Machinery → Machine → ℕ → Datum → Effect Machine
started_machine machinery machine func argument =
    then_on (λ now. record now {
      stack = new_frame machinery func 0;
      stacks = slice_set machine.stacks machine.state.task machine.stack ++ [] ∷ [];
    }) (lifted machine (started machinery.setting machine.state func argument))

abbrev pub handed_machine : Machine → Option (List Frame) → Effect Machine
handed_machine machine (Some (frame ∷ below)) =
    goes_on (gone_on nothing (record machine {
      state = record machine.state { running = frame; below = below; task = 0; tasks = slice_set machine.state.tasks 0 [] };
      stack = slice_index_or machine.stacks 0 [];
      stacks = slice_set machine.stacks 0 [];
    }))
-- task 0 waits where another task runs
handed_machine machine _ = ends (Trap Unreachable) machine

-- a task returns from its first frame: the end of task 0 ends the run, another hands over to task 0
abbrev pub ended_machine : Machine → ℕ → Datum → Effect Machine
ended_machine machine width answer =
    if machine.state.task == 0 then ends (Return (signed width (number_in answer))) machine
    else handed_machine machine (slice_get machine.state.tasks 0)
