-- Tasks: events and `go` lines, a task's start and its end.
use Rattle.std.specs.Prelude.{ℕ, ◌==◌, nat_lt, if◌then◌else◌, List, [], ◌∷◌, ◌++◌, length, Option, Some, slice_get, slice_set}
use Rattle.std.specs.Option.{option_map_or}
use Rattle.tool_io.specs.Counts.{raised}
use Rattle.sp_ids.specs.declared.ends.End.TheVariants.{Return, Trap}
use Rattle.sp_ids.specs.declared.ends.Trap.TheVariants.{Unreachable, Tasks}
use Rattle.sp_ids.specs.Numbers.{signed}
use Rattle.ir_ast.specs.Objects.{Datum}
use Rattle.object_meaning.specs.Registers.{nothing, number_in}
use Rattle.object_meaning.specs.States.{Frame, State, Setting}
use Rattle.object_meaning.specs.Effects.{Effect, goes_on, ends}
use Rattle.object_meaning.specs.Frames.{entered, resumed}

-- one more event; the count stands still at 2^64 - 1
abbrev pub with_event : State → State
with_event state = record state { events = raised state.events }

abbrev pub switched_to : State → ℕ → Option (List Frame) → State
switched_to state to (Some (frame ∷ below)) = record state {
  running = frame;
  below = below;
  task = to;
  tasks = slice_set (slice_set state.tasks state.task (state.running ∷ state.below)) to [];
}
switched_to state to _ = state

-- a `go` line: to a task that was started, has not ended and isn't the running one; else nothing
abbrev pub switched : State → ℕ → State
switched state to = switched_to state to (slice_get state.tasks to)

-- a poll is an event, and then its `go` line holds; the task that runs then goes on, behind its own poll or `task_start`
abbrev pub polled : Setting → State → State
polled setting state =
    let now = with_event state in resumed (option_map_or (switched now) (setting.go now.events) now) nothing

-- a new task goes on at once; 64 may be started, task 0 counted
abbrev pub started : Setting → State → ℕ → Datum → Effect State
started setting state func argument =
    if nat_lt (length state.tasks) 64
    then goes_on (record state {
      running = entered setting func (argument ∷ []);
      below = [];
      task = length state.tasks;
      tasks = slice_set state.tasks state.task (state.running ∷ state.below) ++ [] ∷ [];
    })
    else ends (Trap Tasks) state

abbrev pub handed_over : State → Option (List Frame) → Effect State
handed_over state (Some (frame ∷ below)) =
    goes_on (resumed (record state { running = frame; below = below; task = 0; tasks = slice_set state.tasks 0 [] }) nothing)
-- task 0 waits where another task runs
handed_over state _ = ends (Trap Unreachable) state

-- a task returns from its first frame: the end of task 0 ends the run, another hands over to task 0
abbrev pub task_ended : State → ℕ → Datum → Effect State
task_ended state width answer =
    if state.task == 0 then ends (Return (signed width (number_in answer))) state
    else handed_over state (slice_get state.tasks 0)
