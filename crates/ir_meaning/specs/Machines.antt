-- The states that the interpreter stands for, and what it did.
use Rattle.std.specs.Prelude.{◌≡◌, ℕ, ℤ, List, [], ◌∷◌, map, replicate, Option, Some, None, slice_get, slice_set}
use Rattle.ir_ast.specs.Objects.{Object}
use Rattle.move_plan.specs.declared.plan_lines.PlanLine.{PlanLine}
use Rattle.move_plan.specs.Plans.{go}
use Rattle.ir_ast.specs.declared.ops.Op.TheVariants.{Switch}
use Rattle.flat_code.specs.declared.lines.Edge.{Edge}
use Rattle.flat_code.specs.declared.lines.Exit.{Exit}
use Rattle.flat_code.specs.declared.lines.Segment.{Segment}
use Rattle.flat_code.specs.Edges.{copy_of, phis_in, block_lines}
use Rattle.flat_code.specs.Segments.{AreEdges}
use Rattle.flat_code.specs.Codes.{FlatModule, defined_at, segment_at, block_at, Leaves, HasFront}
use Rattle.flat_code.specs.Straight.{Passes, IsAlike}
use Rattle.object_meaning.specs.Lines.{main_of, register_count}
use Rattle.object_meaning.specs.States.{Frame, State, Setting}
use Rattle.object_meaning.specs.Effects.{Effect}
use Rattle.object_meaning.specs.Calls.{stepped}
use Rattle.object_meaning.specs.Jumps.{jumped}
use Rattle.object_meaning.specs.SourceRuns.{source_setting}
use Rattle.object_meaning.specs.Steps.{step}
use Rattle.object_meaning.specs.Outcomes.{sizes_in}
use Rattle.object_store.specs.Words.{number_word}
use Rattle.run_tasks.specs.declared.printing.Did.{Did}
use Rattle.run_tasks.specs.declared.printing.Did.TheVariants.{Ends}
use Rattle.run_tasks.specs.Dids.{effect_of}
use Rattle.ir_meaning.specs.declared.machine.Machine.{Machine}
use Rattle.waiting_frames.specs.Frames.{front_frame, exit_frame}
use Rattle.ir_meaning.specs.Stacks.{Frames}

-- what a run has beside the frames of its running task; the frames of the other tasks by number, where they have any
pub record Rest : Type 0 where
  pub task : ℕ
  pub tasks : List (Option Frames)
  pub objects : List Object
  pub input : List ℤ
  pub steps : ℕ
  pub events : ℕ

-- the frames of a task that waits, the newest first
abbrev pub task_frames : FlatModule → Frames → List Frame
task_frames code frames = exit_frame code frames.running ∷ map (exit_frame code) frames.below

abbrev pub waiting_frames : FlatModule → Option Frames → List Frame
waiting_frames code None = []
waiting_frames code (Some frames) = task_frames code frames

abbrev pub state_with : FlatModule → Frame → Frames → Rest → State
state_with code running frames others = record {
  running = running;
  below = map (exit_frame code) frames.below;
  task = others.task;
  tasks = map (waiting_frames code) others.tasks;
  objects = others.objects;
  input = others.input;
  steps = others.steps;
  events = others.events;
}

-- the running frame stands at the front of its segment, or at its exit
abbrev pub state_from : FlatModule → Frames → Rest → State
state_from code frames others = state_with code (front_frame code frames.running) frames others

abbrev pub exit_from : FlatModule → Frames → Rest → State
exit_from code frames others = state_with code (exit_frame code frames.running) frames others

abbrev pub rest_of : Machine → Rest
rest_of machine = record {
  task = machine.task;
  tasks = machine.tasks.items;
  objects = machine.objects.objects;
  input = machine.input.now;
  steps = machine.steps;
  events = machine.events;
}

abbrev pub state_of : FlatModule → Machine → State
state_of code machine = state_from code machine.stack (rest_of machine)

abbrev pub exit_of : FlatModule → Machine → State
exit_of code machine = exit_from code machine.stack (rest_of machine)

-- the frames of the running task and the rest
pub record Whole : Type 0 where
  pub frames : Frames
  pub others : Rest

abbrev pub seen_of : Machine → Whole
seen_of machine = record { frames = machine.stack; others = rest_of machine }

-- the frames of another task run, if it has any
abbrev pub switched_so : Whole → ℕ → Option (Option Frames) → Whole
switched_so whole to (Some (Some next)) = record {
  frames = next;
  others = record whole.others { task = to; tasks = slice_set (slice_set whole.others.tasks whole.others.task (Some whole.frames)) to None };
}
switched_so whole to _ = whole

abbrev pub gone_to : Whole → Option ℕ → Whole
gone_to whole None = whole
gone_to whole (Some to) = switched_so whole to (slice_get whole.others.tasks to)

-- the run of a source module under the `go` lines of a plan
abbrev pub today : FlatModule → List PlanLine → ℕ → Setting
today code plan bound = source_setting code.content (go plan) bound

-- the running frame stands at the exit of this segment
pub record StandsAt (code : FlatModule) (frames : Frames) (segment : Segment) (exit : Exit) : Type 0 where
  pub there : segment_at code frames.running.spot.func frames.running.spot.segment ≡ Some segment
  pub leaves : Leaves code frames.running.spot.func frames.running.spot.segment segment exit

-- at an end what is left of the state is what is written of it
abbrev pub IsAfter : Did → State → State → Type 0
IsAfter (Ends end) last state = IsAlike last state
IsAfter _ last state = last ≡ state

-- the run comes from a state to one whose step does this, and makes no object on the way
pub record Turned (setting : Setting) (start : State) (did : Did) (state : State) : Type 0 where
  pub middle : State
  pub passes : Passes setting start middle
  pub still : sizes_in setting.layouts middle.objects ≡ sizes_in setting.layouts start.objects
  pub last : State
  pub effect : effect_of did last ≡ step setting middle
  pub after : IsAfter did last state

-- what is left when a step did this
pub record Does (did : Did) (effect : Effect State) (state : State) : Type 0 where
  pub last : State
  pub effect_is : effect_of did last ≡ effect
  pub after : IsAfter did last state

-- the step takes this edge, from the block in which the running frame stands
pub record LeadsAlong (code : FlatModule) (frames : Frames) (setting : Setting) (middle : State) (edge : Edge) : Type 0 where
  pub step_is : step setting middle ≡ stepped setting middle (jumped setting edge.block)
  pub copies : edge.copies.items
      ≡ map (copy_of (block_at code frames.running.spot.func frames.running.spot.segment)) (phis_in (block_lines (defined_at code frames.running.spot.func) edge.block))

-- the running frame stands at a `switch` with these edges
pub record SwitchesAt (code : FlatModule) (frames : Frames) (segment : Segment) (edges : List Edge) : Type 0 where
  pub exit : Exit
  pub stands : StandsAt code frames segment exit
  pub op : stands.leaves.line.inst.op ≡ Switch
  pub edges_are : AreEdges (defined_at code frames.running.spot.func) segment.start.block stands.leaves.line.inst edges

-- the machine stands at the front of `@main`
pub record IsOpened (code : FlatModule) (input : List ℤ) (machine : Machine) : Type 0 where
  pub front : HasFront code (main_of code.content)
  pub spot : machine.stack.running.spot ≡ record { func = main_of code.content; segment = 0 }
  pub registers : machine.stack.running.registers ≡ replicate (register_count code.content (main_of code.content)) (number_word 0)
  pub below : machine.stack.below ≡ []
  pub others : rest_of machine ≡ record { task = 0; tasks = None ∷ []; objects = []; input = input; steps = 0; events = 0 }
  pub layouts : machine.objects.layouts ≡ code.content.layouts
