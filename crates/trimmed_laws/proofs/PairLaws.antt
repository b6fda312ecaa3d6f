-- Two runs whose frames are paired do the same at calls, polls, ends of tasks and returns.
use Rattle.std.proofs.Common.{◌≡◌, ◌==◌, ℕ, ◌+◌, Bool, true, false, if◌then◌else◌, List, [], ◌∷◌, ◌++◌, length, map, refl, sym, subst}
use Rattle.std.specs.Prelude.{⊤, Option, Some, None, slice_get, slice_set, ℤ, pos, nat_lt, int_lt, unsigned_abs, Result, Ok, Err}
use Rattle.std.specs.Int.{w64, cast_unsigned}
use Rattle.std.specs.List.{sum_by}
use Rattle.std.specs.Option.{option_map_or}
use Rattle.std.proofs.lemmas.List.{length-map}
use Rattle.tool_io.specs.Counts.{raised}
use Rattle.sp_ids.specs.Numbers.{signed}
use Rattle.sp_ids.specs.declared.ends.End.TheVariants as ended
use Rattle.sp_ids.specs.declared.ends.Trap.{Trap}
use Rattle.sp_ids.specs.declared.ends.Trap.TheVariants as traps
use Rattle.ir_ast.specs.declared.ops.Callee.{Callee}
use Rattle.ir_ast.specs.declared.ops.Callee.TheVariants as callees
use Rattle.ir_ast.specs.declared.ops.Operand.{Operand}
use Rattle.ir_ast.specs.Objects.{Datum, number, pointer, Object, footprint}
use Rattle.object_meaning.specs.Accesses.{Place, accessed, cell_named}
use Rattle.object_meaning.specs.Calls.{allocated, allocating, called, checked, entering, function_in, made, stepped, taking}
use Rattle.object_meaning.specs.Comparisons.{bit, same_pointer}
use Rattle.object_meaning.specs.Effects.{Effect, goes_on, ends}
use Rattle.object_meaning.specs.Frames.{answered, entered, resumed}
use Rattle.object_meaning.specs.Lines.{Line}
use Rattle.object_meaning.specs.Registers.{nothing, number_in, operand, pointer_in, value}
use Rattle.object_meaning.specs.States.{Frame, State, Setting}
use Rattle.object_meaning.specs.Steps.{returned}
use Rattle.object_meaning.specs.Tasks.{handed_over, polled, started, switched, switched_to, task_ended, with_event}
use Rattle.trimmed_laws.proofs.Pairs.{AllTasks, Goes, Lasts, SameEffect, Stacks, Stands, TaskAt, both_end, both_go, both_print, built, more_frames, no_frames, no_task, one_task, paired, stacks_length, task_get, task_push, task_set, tasks_length}

-- the setting with other lines, other registers and other names for its functions
abbrev pub with_lines : Setting → (ℕ → ℕ → List Line) → List Line → (ℕ → ℕ) → (ℕ → List ℕ) → Setting
with_lines one lines front registers names = record one { lines = lines; front = front; registers = registers; names = names }

-- what pairs of frames must keep: a new frame, where the function may be entered with so many arguments, and one that gets its answer
pub record Pairs (one other : Setting) (Enters : ℕ → ℕ → Type 0) (Runs Waits : Frame → Frame → Type 0) : Type 0 where
  pub func_waits : (frame there : Frame) → Waits frame there → there.func ≡ frame.func
  pub enters : (func : ℕ) (arguments : List Datum) → Enters func (length arguments) → Runs (entered one func arguments) (entered other func arguments)
  pub answers : (frame there : Frame) (answer : Datum) → Waits frame there → Runs (answered frame answer) (answered there answer)

-- what a call passes may be passed
abbrev pub Passes : (ℕ → ℕ → Type 0) → Callee → List Operand → List Operand → Type 0
Passes Enters (callees.Fun func) operands others = Enters func.0 (length operands)
Passes Enters callees.TaskStart operands others = Enters (function_in (slice_get operands 0)) 1 × (function_in (slice_get others 0) ≡ function_in (slice_get operands 0))
Passes Enters callee operands others = ⊤

module _ (one : Setting) (lines : ℕ → ℕ → List Line) (front : List Line) (registers : ℕ → ℕ) (names : ℕ → List ℕ) (Enters : ℕ → ℕ → Type 0) (Runs Waits : Frame → Frame → Type 0)
    (law : Pairs one (with_lines one lines front registers names) Enters Runs Waits) where
  abbrev pub other : Setting
  other = with_lines one lines front registers names

  -- a frame that waited goes on with its answer
  pub resumed_goes : (state there : State) (answer : Datum) → Stands Runs Waits state there → Goes Runs Waits (resumed state answer) (resumed there answer)
  resumed_goes _ _ answer (paired state running below tasks frame stack all) =
      paired (record state { running = answered state.running answer }) (answered running answer) below tasks (law.answers state.running running answer frame) stack all

  -- ---- tasks

  event_stands : (state there : State) → Stands Runs Waits state there → Stands Runs Waits (with_event state) (with_event there)
  event_stands _ _ (paired state running below tasks frame stack all) =
      paired (record state { events = raised state.events }) running below tasks frame stack all

  switched_stands : (state there : State) (to : ℕ) → Stands Runs Waits state there → Stands Runs Waits (switched state to) (switched there to)
  switched_stands _ _ to (paired state running below tasks frame stack all) =
      by (slice_get state.tasks to) (slice_get tasks to) (task_get Runs Waits state.tasks tasks to all)
    where
      by : (found found_there : Option (List Frame)) → TaskAt Runs Waits found found_there
          → Stands Runs Waits (switched_to state to found) (switched_to (built state running below tasks) to found_there)
      by _ _ no_task = paired state running below tasks frame stack all
      by _ _ (one_task _ _ no_frames) = paired state running below tasks frame stack all
      by _ _ (one_task _ _ (more_frames its_frame its_there its_frames its_others its_pair its_stack)) =
          paired
          (record state {
            running = its_frame;
            below = its_frames;
            task = to;
            tasks = slice_set (slice_set state.tasks state.task (state.running ∷ state.below)) to [];
          })
          its_there its_others (slice_set (slice_set tasks state.task (running ∷ below)) to []) its_pair its_stack
          (task_set Runs Waits (slice_set state.tasks state.task (state.running ∷ state.below)) (slice_set tasks state.task (running ∷ below)) to [] []
          (task_set Runs Waits state.tasks tasks state.task (state.running ∷ state.below) (running ∷ below) all (more_frames state.running running state.below below frame stack))
          no_frames)

  pub polled_goes : (state there : State) → Stands Runs Waits state there → Goes Runs Waits (polled one state) (polled other there)
  polled_goes _ _ (paired state running below tasks frame stack all) =
      by (one.go (raised state.events)) (event_stands _ _ (paired state running below tasks frame stack all))
    where
      by : (to : Option ℕ) → Stands Runs Waits (with_event state) (with_event (built state running below tasks))
          → Goes Runs Waits (resumed (option_map_or (switched (with_event state)) to (with_event state)) nothing)
          (resumed (option_map_or (switched (with_event (built state running below tasks))) to (with_event (built state running below tasks))) nothing)
      by None so = resumed_goes _ _ nothing so
      by (Some to) so = resumed_goes _ _ nothing (switched_stands _ _ to so)

  -- ---- states that differ from paired ones in what both have

  objects_go : (state there : State) (objects : List Object) → Goes Runs Waits state there
      → Goes Runs Waits (record (with_event state) { objects = objects }) (record (with_event there) { objects = objects })
  objects_go _ _ objects (paired state running below tasks frame stack all) =
      paired (record state { events = raised state.events; objects = objects }) running below tasks frame stack all

  pub stored_go : (state there : State) (objects : List Object) → Goes Runs Waits state there
      → Goes Runs Waits (record state { objects = objects }) (record there { objects = objects })
  stored_go _ _ objects (paired state running below tasks frame stack all) = paired (record state { objects = objects }) running below tasks frame stack all

  input_goes : (state there : State) (input : List ℤ) → Goes Runs Waits state there → Goes Runs Waits (record state { input = input }) (record there { input = input })
  input_goes _ _ input (paired state running below tasks frame stack all) = paired (record state { input = input }) running below tasks frame stack all

  -- ---- steps, returns and ends of tasks

  module _ (state : State) (running : Frame) (below : List Frame) (tasks : List (List Frame)) (same_func : running.func ≡ state.running.func)
      (stack : Stacks Runs Waits state.below below) (all : AllTasks Runs Waits state.tasks tasks) where
    pub lasts_so : Lasts Runs Waits state (built state running below tasks)
    lasts_so = record { func = same_func; steps = refl; events = refl; objects = refl; below = stack }

    pub stepped_same : (next next_there : State → Effect State)
        → SameEffect Runs Waits (next (record state { steps = state.steps + 1 })) (next_there (built (record state { steps = state.steps + 1 }) running below tasks))
        → SameEffect Runs Waits (stepped one state next) (stepped other (built state running below tasks) next_there)
    stepped_same next next_there so = by (nat_lt state.steps one.bound)
      where
        by : (b : Bool) → SameEffect Runs Waits (if b then next (record state { steps = state.steps + 1 }) else ends ended.OutOfSteps state)
            (if b then next_there (built (record state { steps = state.steps + 1 }) running below tasks) else ends ended.OutOfSteps (built state running below tasks))
        by true = so
        by false = both_end ended.OutOfSteps state (built state running below tasks) lasts_so

    handed_same : (found found_there : Option (List Frame)) → TaskAt Runs Waits found found_there
        → SameEffect Runs Waits (handed_over state found) (handed_over (built state running below tasks) found_there)
    handed_same _ _ no_task = both_end (ended.Trap traps.Unreachable) state (built state running below tasks) lasts_so
    handed_same _ _ (one_task _ _ no_frames) = both_end (ended.Trap traps.Unreachable) state (built state running below tasks) lasts_so
    handed_same _ _ (one_task _ _ (more_frames its_frame its_there its_frames its_others its_pair its_stack)) =
        both_go _ _
        (resumed_goes (record state { running = its_frame; below = its_frames; task = 0; tasks = slice_set state.tasks 0 [] })
        (record state { running = its_there; below = its_others; task = 0; tasks = slice_set tasks 0 [] }) nothing
        (paired (record state { running = its_frame; below = its_frames; task = 0; tasks = slice_set state.tasks 0 [] }) its_there its_others (slice_set tasks 0 []) its_pair its_stack
        (task_set Runs Waits state.tasks tasks 0 [] [] all no_frames)))

    ended_same : (width : ℕ) (answer : Datum) → SameEffect Runs Waits (task_ended state width answer) (task_ended (built state running below tasks) width answer)
    ended_same width answer = by (state.task == 0)
      where
        by : (b : Bool) → SameEffect Runs Waits (if b then ends (ended.Return (signed width (number_in answer))) state else handed_over state (slice_get state.tasks 0))
            (if b then ends (ended.Return (signed width (number_in answer))) (built state running below tasks) else handed_over (built state running below tasks) (slice_get tasks 0))
        by true = both_end (ended.Return (signed width (number_in answer))) state (built state running below tasks) lasts_so
        by false = handed_same (slice_get state.tasks 0) (slice_get tasks 0) (task_get Runs Waits state.tasks tasks 0 all)

    pub returned_same : (width : ℕ) (answer : Datum) (callers callers_there : List Frame) → Stacks Runs Waits callers callers_there
        → SameEffect Runs Waits (returned width answer callers state) (returned width answer callers_there (built state running below tasks))
    returned_same width answer _ _ no_frames = ended_same width answer
    returned_same width answer _ _ (more_frames its_frame its_there its_frames its_others its_pair its_stack) =
        both_go _ _
        (resumed_goes (record state { running = its_frame; below = its_frames }) (built state its_there its_others tasks) answer
        (paired (record state { running = its_frame; below = its_frames }) its_there its_others tasks its_pair its_stack all))

  -- ---- calls

  module _ (state : State) (running : Frame) (below : List Frame) (tasks : List (List Frame)) (frame : Waits state.running running)
      (stack : Stacks Runs Waits state.below below) (all : AllTasks Runs Waits state.tasks tasks) where
    abbrev there : State
    there = built state running below tasks

    lasts : Lasts Runs Waits state there
    lasts = lasts_so state running below tasks (law.func_waits state.running running frame) stack all

    event_lasts : Lasts Runs Waits (with_event state) (with_event there)
    event_lasts = record { func = law.func_waits state.running running frame; steps = refl; events = refl; objects = refl; below = stack }

    entering_same : (func : ℕ) (arguments : List Datum) → Enters func (length arguments)
        → SameEffect Runs Waits (entering one func arguments state) (entering other func arguments there)
    entering_same func arguments fits = rw (stacks_length Runs Waits state.below below stack) (by (nat_lt (length state.below + 1) 4096))
      where
        by : (b : Bool) → SameEffect Runs Waits
            (if b then goes_on (record state { running = entered one func arguments; below = state.running ∷ state.below }) else ends (ended.Trap traps.Depth) state)
            (if b then goes_on (record there { running = entered other func arguments; below = running ∷ below }) else ends (ended.Trap traps.Depth) there)
        by true =
            both_go _ _
            (paired (record state { running = entered one func arguments; below = state.running ∷ state.below }) (entered other func arguments) (running ∷ below) tasks
            (law.enters func arguments fits) (more_frames state.running running state.below below frame stack) all)
        by false = both_end (ended.Trap traps.Depth) state there lasts

    started_same : (func : ℕ) (argument : Datum) → Enters func 1 → SameEffect Runs Waits (started one state func argument) (started other there func argument)
    started_same func argument fits = rw (tasks_length Runs Waits state.tasks tasks all) (by (nat_lt (length state.tasks) 64))
      where
        by : (b : Bool) → SameEffect Runs Waits
            (if b then goes_on (record state {
              running = entered one func (argument ∷ []);
              below = [];
              task = length state.tasks;
              tasks = slice_set state.tasks state.task (state.running ∷ state.below) ++ [] ∷ [];
            }) else ends (ended.Trap traps.Tasks) state)
            (if b then goes_on (record there {
              running = entered other func (argument ∷ []);
              below = [];
              task = length state.tasks;
              tasks = slice_set tasks state.task (running ∷ below) ++ [] ∷ [];
            }) else ends (ended.Trap traps.Tasks) there)
        by true =
            both_go _ _
            (paired (record state {
              running = entered one func (argument ∷ []);
              below = [];
              task = length state.tasks;
              tasks = slice_set state.tasks state.task (state.running ∷ state.below) ++ [] ∷ [];
            }) (entered other func (argument ∷ [])) [] (slice_set tasks state.task (running ∷ below) ++ [] ∷ [])
            (law.enters func (argument ∷ []) fits) no_frames
            (task_push Runs Waits (slice_set state.tasks state.task (state.running ∷ state.below)) (slice_set tasks state.task (running ∷ below)) [] []
            (task_set Runs Waits state.tasks tasks state.task (state.running ∷ state.below) (running ∷ below) all (more_frames state.running running state.below below frame stack))
            no_frames))
        by false = both_end (ended.Trap traps.Tasks) state there lasts

  module _ (state : State) (running : Frame) (below : List Frame) (tasks : List (List Frame)) (frame : Waits state.running running)
      (stack : Stacks Runs Waits state.below below) (all : AllTasks Runs Waits state.tasks tasks)
      (done done_there : Datum → State) (each : (answer : Datum) → Goes Runs Waits (done answer) (done_there answer)) where
    abbrev at_call : State
    at_call = built state running below tasks

    allocated_same : (object : Object) → SameEffect Runs Waits (allocated one state done object) (allocated other at_call done_there object)
    allocated_same object = by (nat_lt 67108864 (sum_by (footprint one.layouts) (state.objects ++ object ∷ [])))
      where
        by : (b : Bool) → SameEffect Runs Waits
            (if b then ends (ended.Trap traps.Full) (with_event state) else goes_on (record (with_event (done (pointer (record { object = length state.objects + 1; offset = 0 })))) {
              objects = state.objects ++ object ∷ [];
            }))
            (if b then ends (ended.Trap traps.Full) (with_event at_call) else goes_on (record (with_event (done_there (pointer (record { object = length state.objects + 1; offset = 0 })))) {
              objects = state.objects ++ object ∷ [];
            }))
        by true = both_end (ended.Trap traps.Full) (with_event state) (with_event at_call) (event_lasts state running below tasks frame stack all)
        by false = both_go _ _ (objects_go _ _ (state.objects ++ object ∷ []) (each (pointer (record { object = length state.objects + 1; offset = 0 }))))

    allocating_same : (layout : ℕ) (count : ℤ) → SameEffect Runs Waits (allocating one state done layout count) (allocating other at_call done_there layout count)
    allocating_same layout count = by (int_lt count (pos 0))
      where
        by : (b : Bool) → SameEffect Runs Waits
            (if b then ends (ended.Trap traps.Count) (with_event state) else allocated one state done (made one.layouts layout (unsigned_abs count)))
            (if b then ends (ended.Trap traps.Count) (with_event at_call) else allocated other at_call done_there (made one.layouts layout (unsigned_abs count)))
        by true = both_end (ended.Trap traps.Count) (with_event state) (with_event at_call) (event_lasts state running below tasks frame stack all)
        by false = allocated_same (made one.layouts layout (unsigned_abs count))

    taking_same : (input : List ℤ) → SameEffect Runs Waits (taking state done input) (taking at_call done_there input)
    taking_same [] = both_end (ended.Trap traps.Input) state at_call (lasts state running below tasks frame stack all)
    taking_same (first ∷ more) = both_go _ _ (input_goes _ _ more (each (number (cast_unsigned w64 first))))

    checked_same : (result : Result Place Trap) → SameEffect Runs Waits (checked state done result) (checked at_call done_there result)
    checked_same (Ok place) = both_go _ _ (each nothing)
    checked_same (Err trap) = both_end (ended.Trap trap) state at_call (lasts state running below tasks frame stack all)

    module _ (operands others : List Operand) (values : map (value running.registers) others ≡ map (value state.running.registers) operands)
        (reads : (place : ℕ) → operand running.registers others place ≡ operand state.running.registers operands place) where
      pub called_same : (callee : Callee) → Passes Enters callee operands others → SameEffect Runs Waits (called one state done callee operands) (called other at_call done_there callee others)
      called_same (callees.Fun func) fits =
          rw values
          (stepped_same state running below tasks (law.func_waits state.running running frame) stack all
          (entering one func.0 (map (value state.running.registers) operands)) (entering other func.0 (map (value state.running.registers) operands))
          (entering_same (record state { steps = state.steps + 1 }) running below tasks frame stack all func.0 (map (value state.running.registers) operands)
          (subst (Enters func.0) (sym (length-map operands (value state.running.registers))) fits)))
      called_same (callees.New layout) fits = rw (reads 0) (allocating_same layout (signed 64 (number_in (operand state.running.registers operands 0))))
      called_same callees.Print fits =
          rw (reads 0) (both_print (number_in (operand state.running.registers operands 0)) (done nothing) (done_there nothing) (each nothing))
      called_same callees.Read fits = taking_same state.input
      called_same callees.TaskStart fits =
          rw (fits.1, reads 1) (started_same state running below tasks frame stack all (function_in (slice_get operands 0)) (operand state.running.registers operands 1) fits.0)
      called_same callees.Poll fits = both_go _ _ (polled_goes state at_call (paired state running below tasks frame stack all))
      called_same callees.Check fits =
          rw (reads 2, reads 1)
          (checked_same (accessed one.layouts state.objects (cell_named (number_in (operand state.running.registers operands 2))) (pointer_in (operand state.running.registers operands 1))))
      called_same callees.Same fits =
          rw (reads 1, reads 3)
          (both_go _ _ (each (number (bit (same_pointer (pointer_in (operand state.running.registers operands 1)) (pointer_in (operand state.running.registers operands 3)))))))
