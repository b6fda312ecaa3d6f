-- What is foreseen of an event before the step that makes it.
use Rattle.std.specs.Prelude.{◌≡◌, ℕ, Bool, true, false, if◌then◌else◌, List, [], ◌∷◌, map}
use Rattle.std.specs.List.{flat_map}
use Rattle.sp_ids.specs.declared.ends.End.TheVariants.{LostFrame}
use Rattle.ir_ast.specs.declared.ops.Callee.{Callee}
use Rattle.ir_ast.specs.declared.ops.Operand.{Operand}
use Rattle.moving_heap.specs.declared.stands.Moved.{Moved}
use Rattle.object_meaning.specs.Effects.{Effect, ends}
use Rattle.object_meaning.specs.Lines.{Line}
use Rattle.object_meaning.specs.Tasks.{with_event}
use Rattle.object_meaning.specs.Traces.{Event, event_at}
use Rattle.machine_meaning.specs.Happenings.{Happening as Happened, SlotChange, changes_by_task, happening}
use Rattle.machine_meaning.specs.Machines.{Machine, Machinery, all_frames, all_stacks}
use Rattle.machine_meaning.specs.Moving.{moves_due}
use Rattle.machine_meaning.specs.MachineSteps.{calls, machine_step}
use Rattle.run_texts.specs.RunTexts.{event_lines, trace_lines}
use Rattle.run_traces.specs.declared.happenings.Happening.{Happening}
use Rattle.run_traces.specs.Happenings.{happened, happened_lines, kind_of}
use Rattle.run_tasks.specs.declared.printing.Did.{Did}
use Rattle.run_tasks.specs.declared.printing.Did.TheVariants.{Ends as Finishes}

-- whether a step loses a frame
abbrev pub is_lost : Effect Machine → Bool
is_lost (ends LostFrame machine) = true
is_lost effect = false

abbrev pub did_lose : Did → Bool
did_lose (Finishes LostFrame) = true
did_lose _ = false

-- the slots of all tasks, whether or not a walk loses a frame
abbrev pub slots_due : Machinery → List Moved → Machine → List SlotChange
slots_due machinery [] machine = []
slots_due machinery (move ∷ moves) machine = changes_by_task machinery (move ∷ moves) 0 (all_frames machine) (all_stacks machine)

abbrev pub foreseen : Machinery → Machine → Event → Happened
foreseen machinery machine event =
    record (happening machinery machine event) { slots = slots_due machinery (moves_due machinery machine.heap (with_event machine.state).events) machine }

pub record IsForeseen (machinery : Machinery) (machine : Machine) (poll : Bool) (one : Happening) : Type 0 where
  pub number : one.number ≡ (with_event machine.state).events
  pub happened_so : happened false one ≡ foreseen machinery machine (kind_of poll)

-- the lines of what was foreseen, if it was an event
abbrev pub shown_lines : Bool → Bool → Happening → List (List ℕ)
shown_lines event lost one = if event then happened_lines lost one else []

-- the machine stands at a call, with its live entries in their slots
abbrev pub CallForeseen : Machinery → Machine → Callee → Bool → Happening → Type 0
CallForeseen machinery machine callee event one = (line : Line) (rest : List Line) (operands : List Operand)
    → flat_map (event_lines (with_event machine.state).events) (map (happening machinery machine) (event_at callee))
    ≡ shown_lines event (is_lost (calls machinery machine line rest callee operands)) one

-- what the trace, if there is one, has of the step that a machine is about to take
abbrev pub StepForeseen : Machinery → Bool → Machine → Bool → Happening → Type 0
StepForeseen machinery trace machine event one =
    (if trace then trace_lines machinery machine else []) ≡ shown_lines event (is_lost (machine_step machinery machine)) one
