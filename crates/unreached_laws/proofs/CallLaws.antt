-- Calls, returns and ends of tasks: what the run does, the run of the kept blocks does.
use Rattle.std.proofs.Common.{◌≡◌, ◌==◌, ℕ, ◌+◌, Bool, true, false, if◌then◌else◌, List, [], ◌∷◌, ◌++◌, length, map, refl, sym, ap, ◌∙◌, arith}
use Rattle.std.specs.Prelude.{Option, Some, None, slice_get, slice_set, ℤ, pos, nat_lt, int_lt, unsigned_abs, Result, Ok, Err}
use Rattle.std.specs.Int.{w64, cast_unsigned}
use Rattle.std.specs.List.{All, sum_by}
use Rattle.std.specs.Option.{option_map}
use Rattle.std.proofs.lemmas.List.{length-map, map-append, map-set}
use Rattle.std.proofs.lemmas.List.Elements.{All-append, All-cons, All-nil, All-set, All-head, All-tail}
use Rattle.std.proofs.lemmas.Option.{slice_get-map}
use Rattle.list_laws.proofs.Contents.{all_at}
use Rattle.sp_ids.specs.Numbers.{signed}
use Rattle.sp_ids.specs.declared.ends.End.TheVariants as ended
use Rattle.sp_ids.specs.declared.ends.Trap.{Trap}
use Rattle.sp_ids.specs.declared.ends.Trap.TheVariants as traps
use Rattle.ir_ast.specs.declared.ops.Callee.{Callee}
use Rattle.ir_ast.specs.declared.ops.Callee.TheVariants as callees
use Rattle.ir_ast.specs.declared.ops.Operand.{Operand}
use Rattle.ir_ast.specs.Objects.{Datum, number, pointer, Object, footprint}
use Rattle.ir_cfg.specs.Unreached.{operand_kept}
use Rattle.object_meaning.specs.Accesses.{Place, accessed, cell_named}
use Rattle.object_meaning.specs.Calls.{allocated, allocating, called, checked, entering, function_in, made, stepped, taking}
use Rattle.object_meaning.specs.Comparisons.{bit, same_pointer}
use Rattle.object_meaning.specs.Effects.{Effect, goes_on, ends}
use Rattle.object_meaning.specs.Frames.{entered}
use Rattle.object_meaning.specs.Lines.{Line}
use Rattle.object_meaning.specs.Registers.{nothing, number_in, operand, pointer_in, value}
use Rattle.object_meaning.specs.States.{Frame, State, Setting}
use Rattle.object_meaning.specs.Steps.{returned}
use Rattle.object_meaning.specs.Tasks.{handed_over, started, task_ended, with_event}
use Rattle.unreached_laws.proofs.RegisterLaws.{OperandStays, function_same, operand_same, values_same}
use Rattle.unreached_laws.proofs.Keepings.{CalleeTakes, Keeping, KeepsBlocks, Takes, numbers, with_lines}
use Rattle.unreached_laws.proofs.Related.{EffectKept, FrameStays, Goes, Stays, TaskStays, both_end, both_go, both_print, image, image_of}
use Rattle.unreached_laws.proofs.FrameLaws.{entered_is, entered_stays, event_goes, polled_goes, resumed_goes}

module _ (keepings : ℕ → Keeping) (one : Setting) (lines : ℕ → ℕ → List Line) (registers : ℕ → ℕ) (law : KeepsBlocks keepings one lines registers) where
  abbrev pub other : Setting
  other = with_lines one lines registers

  abbrev I : State → State
  I state = image_of keepings state

  abbrev Kept : Effect State → Effect State → Type 0
  Kept effect there = EffectKept keepings effect there

  pub itself : (state : State) → Stays keepings state → Goes keepings state (I state)
  itself state stays = record { stays = stays; is = refl }

  -- ---- steps

  pub stepped_kept : (state : State) → Stays keepings state → (next next_there : State → Effect State)
      → Kept (next (record state { steps = state.steps + 1 })) (next_there (I (record state { steps = state.steps + 1 })))
      → Kept (stepped one state next) (stepped other (I state) next_there)
  stepped_kept state stays next next_there so = by (nat_lt state.steps one.bound)
    where
      by : (b : Bool) → Kept (if b then next (record state { steps = state.steps + 1 }) else ends ended.OutOfSteps state)
          (if b then next_there (I (record state { steps = state.steps + 1 })) else ends ended.OutOfSteps (I state))
      by true = so
      by false = both_end ended.OutOfSteps state (I state) (itself state stays)

  pub step_stays : (state : State) → Stays keepings state → Stays keepings (record state { steps = state.steps + 1 })
  step_stays state stays = record { running = stays.running; below = stays.below; tasks = stays.tasks }

  -- ---- returns, and ends of tasks

  handed_kept : (state : State) → Stays keepings state → (found : Option (List Frame)) → ((frames : List Frame) → found ≡ Some frames → TaskStays keepings frames)
      → Kept (handed_over state found) (handed_over (I state) (option_map (map (image keepings)) found))
  handed_kept state stays None each = both_end (ended.Trap traps.Unreachable) state (I state) (itself state stays)
  handed_kept state stays (Some []) each = both_end (ended.Trap traps.Unreachable) state (I state) (itself state stays)
  handed_kept state stays (Some (frame ∷ below)) each =
      let frames = each (frame ∷ below) refl in
      both_go _ _
      (resumed_goes keepings (record state { running = frame; below = below; task = 0; tasks = slice_set state.tasks 0 [] })
      (record (I state) { running = image keepings frame; below = map (image keepings) below; task = 0; tasks = slice_set (I state).tasks 0 [] }) nothing
      (record {
        stays = record {
          running = All-head (FrameStays keepings) frame below frames;
          below = All-tail (FrameStays keepings) frame below frames;
          tasks = All-set (TaskStays keepings) state.tasks 0 [] (All-nil (FrameStays keepings)) stays.tasks;
        };
        is = ap (λ tasks. record (I state) { running = image keepings frame; below = map (image keepings) below; task = 0; tasks = tasks })
            (sym (map-set (map (image keepings)) state.tasks 0 []));
      }))

  ended_kept : (state : State) → Stays keepings state → (width : ℕ) (answer : Datum) → Kept (task_ended state width answer) (task_ended (I state) width answer)
  ended_kept state stays width answer = rw (slice_get-map (map (image keepings)) state.tasks 0) (by (state.task == 0))
    where
      by : (b : Bool) → Kept (if b then ends (ended.Return (signed width (number_in answer))) state else handed_over state (slice_get state.tasks 0))
          (if b then ends (ended.Return (signed width (number_in answer))) (I state) else handed_over (I state) (option_map (map (image keepings)) (slice_get state.tasks 0)))
      by true = both_end (ended.Return (signed width (number_in answer))) state (I state) (itself state stays)
      by false = handed_kept state stays (slice_get state.tasks 0) (λ frames is. all_at (TaskStays keepings) state.tasks 0 frames stays.tasks is)

  pub returned_kept : (state : State) → Stays keepings state → (width : ℕ) (answer : Datum) (callers : List Frame) → TaskStays keepings callers
      → Kept (returned width answer callers state) (returned width answer (map (image keepings) callers) (I state))
  returned_kept state stays width answer [] frames = ended_kept state stays width answer
  returned_kept state stays width answer (caller ∷ below) frames =
      both_go _ _
      (resumed_goes keepings (record state { running = caller; below = below }) (I (record state { running = caller; below = below })) answer
      (itself (record state { running = caller; below = below })
      (record { running = All-head (FrameStays keepings) caller below frames; below = All-tail (FrameStays keepings) caller below frames; tasks = stays.tasks })))

  -- ---- calls

  module _ (state : State) (stays : Stays keepings state) where
    event_ends : (trap : Trap) → Kept (ends (ended.Trap trap) (with_event state)) (ends (ended.Trap trap) (with_event (I state)))
    event_ends trap = both_end (ended.Trap trap) (with_event state) (with_event (I state)) (event_goes keepings state (I state) (itself state stays))

    entering_kept : (func : ℕ) (arguments : List Datum) → Takes (keepings func) (length arguments)
        → Kept (entering one func arguments state) (entering other func arguments (I state))
    entering_kept func arguments few = rw (length-map state.below (image keepings)) (by (nat_lt (length state.below + 1) 4096))
      where
        by : (b : Bool) → Kept
            (if b then goes_on (record state { running = entered one func arguments; below = state.running ∷ state.below }) else ends (ended.Trap traps.Depth) state)
            (if b then goes_on (record (I state) { running = entered other func arguments; below = (I state).running ∷ (I state).below }) else ends (ended.Trap traps.Depth) (I state))
        by true =
            both_go _ _
            (record {
              stays = record {
                running = entered_stays keepings one lines registers law func arguments few;
                below = All-cons (FrameStays keepings) state.running state.below stays.running stays.below;
                tasks = stays.tasks;
              };
              is = ap (λ running. record (I state) { running = running; below = (I state).running ∷ (I state).below }) (entered_is keepings one lines registers law func arguments few);
            })
        by false = both_end (ended.Trap traps.Depth) state (I state) (itself state stays)

    started_tasks : slice_set (I state).tasks state.task ((I state).running ∷ (I state).below) ++ [] ∷ []
        ≡ map (map (image keepings)) (slice_set state.tasks state.task (state.running ∷ state.below) ++ [] ∷ [])
    started_tasks =
        ap (λ tasks. tasks ++ [] ∷ []) (sym (map-set (map (image keepings)) state.tasks state.task (state.running ∷ state.below)))
        ∙ sym (map-append (map (image keepings)) (slice_set state.tasks state.task (state.running ∷ state.below)) ([] ∷ []))

    started_kept : (func : ℕ) (argument : Datum) → Takes (keepings func) 1 → Kept (started one state func argument) (started other (I state) func argument)
    started_kept func argument few = rw (length-map state.tasks (map (image keepings))) (by (nat_lt (length state.tasks) 64))
      where
        by : (b : Bool) → Kept
            (if b then goes_on (record state {
              running = entered one func (argument ∷ []);
              below = [];
              task = length state.tasks;
              tasks = slice_set state.tasks state.task (state.running ∷ state.below) ++ [] ∷ [];
            }) else ends (ended.Trap traps.Tasks) state)
            (if b then goes_on (record (I state) {
              running = entered other func (argument ∷ []);
              below = [];
              task = length state.tasks;
              tasks = slice_set (I state).tasks state.task ((I state).running ∷ (I state).below) ++ [] ∷ [];
            }) else ends (ended.Trap traps.Tasks) (I state))
        by true =
            both_go _ _
            (record {
              stays = record {
                running = entered_stays keepings one lines registers law func (argument ∷ []) few;
                below = All-nil (FrameStays keepings);
                tasks = All-append (TaskStays keepings) (slice_set state.tasks state.task (state.running ∷ state.below)) ([] ∷ [])
                    (All-set (TaskStays keepings) state.tasks state.task (state.running ∷ state.below) (All-cons (FrameStays keepings) state.running state.below stays.running stays.below) stays.tasks)
                    (All-cons (TaskStays keepings) [] [] (All-nil (FrameStays keepings)) (All-nil (TaskStays keepings)));
              };
              is = λ i. record state {
                running = entered_is keepings one lines registers law func (argument ∷ []) few i;
                below = [];
                task = length state.tasks;
                tasks = started_tasks i;
              };
            })
        by false = both_end (ended.Trap traps.Tasks) state (I state) (itself state stays)

  module _ (state : State) (stays : Stays keepings state) (done done_there : Datum → State) (each : (answer : Datum) → Goes keepings (done answer) (done_there answer)) where
    objects_go : (answer : Datum) (objects : List Object) → Goes keepings (record (with_event (done answer)) { objects = objects }) (record (with_event (done_there answer)) { objects = objects })
    objects_go answer objects =
        let goes = each answer in
        record {
          stays = record { running = (goes.stays).running; below = (goes.stays).below; tasks = (goes.stays).tasks };
          is = ap (λ (there : State). record (with_event there) { objects = objects }) goes.is;
        }

    input_goes : (answer : Datum) (input : List ℤ) → Goes keepings (record (done answer) { input = input }) (record (done_there answer) { input = input })
    input_goes answer input =
        let goes = each answer in
        record {
          stays = record { running = (goes.stays).running; below = (goes.stays).below; tasks = (goes.stays).tasks };
          is = ap (λ (there : State). record there { input = input }) goes.is;
        }

    allocated_kept : (object : Object) → Kept (allocated one state done object) (allocated other (I state) done_there object)
    allocated_kept object = by (nat_lt 67108864 (sum_by (footprint one.layouts) (state.objects ++ object ∷ [])))
      where
        by : (b : Bool) → Kept
            (if b then ends (ended.Trap traps.Full) (with_event state) else goes_on (record (with_event (done (pointer (record { object = length state.objects + 1; offset = 0 })))) {
              objects = state.objects ++ object ∷ [];
            }))
            (if b then ends (ended.Trap traps.Full) (with_event (I state)) else goes_on (record (with_event (done_there (pointer (record { object = length state.objects + 1; offset = 0 })))) {
              objects = state.objects ++ object ∷ [];
            }))
        by true = event_ends state stays traps.Full
        by false = both_go _ _ (objects_go (pointer (record { object = length state.objects + 1; offset = 0 })) (state.objects ++ object ∷ []))

    allocating_kept : (layout : ℕ) (count : ℤ) → Kept (allocating one state done layout count) (allocating other (I state) done_there layout count)
    allocating_kept layout count = by (int_lt count (pos 0))
      where
        by : (b : Bool) → Kept
            (if b then ends (ended.Trap traps.Count) (with_event state) else allocated one state done (made one.layouts layout (unsigned_abs count)))
            (if b then ends (ended.Trap traps.Count) (with_event (I state)) else allocated other (I state) done_there (made one.layouts layout (unsigned_abs count)))
        by true = event_ends state stays traps.Count
        by false = allocated_kept (made one.layouts layout (unsigned_abs count))

    taking_kept : (input : List ℤ) → Kept (taking state done input) (taking (I state) done_there input)
    taking_kept [] = both_end (ended.Trap traps.Input) state (I state) (itself state stays)
    taking_kept (first ∷ more) = both_go _ _ (input_goes (number (cast_unsigned w64 first)) more)

    checked_kept : (result : Result Place Trap) → Kept (checked state done result) (checked (I state) done_there result)
    checked_kept (Ok place) = both_go _ _ (each nothing)
    checked_kept (Err trap) = both_end (ended.Trap trap) state (I state) (itself state stays)

    abbrev K : Keeping
    K = keepings state.running.func

    read_same : (operands : List Operand) → All (OperandStays K.values) operands → (place : ℕ)
        → operand (I state).running.registers (map (operand_kept (numbers K)) operands) place ≡ operand state.running.registers operands place
    read_same operands stay place = operand_same K.values (numbers K) refl state.running.registers operands place stay

    pub called_kept : (operands : List Operand) → All (OperandStays K.values) operands → (callee : Callee) → CalleeTakes keepings callee operands
        → Kept (called one state done callee operands) (called other (I state) done_there callee (map (operand_kept (numbers K)) operands))
    called_kept operands stay (callees.Fun func) few =
        rw (values_same K.values (numbers K) refl state.running.registers operands stay)
        (stepped_kept state stays (entering one func.0 (map (value state.running.registers) operands)) (entering other func.0 (map (value state.running.registers) operands))
        (entering_kept (record state { steps = state.steps + 1 }) (step_stays state stays) func.0 (map (value state.running.registers) operands)
        (record { entry = few.entry; few = let same = length-map operands (value state.running.registers) in let fits = few.few in omega arith })))
    called_kept operands stay (callees.New layout) few =
        rw (read_same operands stay 0) (allocating_kept layout (signed 64 (number_in (operand state.running.registers operands 0))))
    called_kept operands stay callees.Print few =
        rw (read_same operands stay 0) (both_print (number_in (operand state.running.registers operands 0)) (done nothing) (done_there nothing) (each nothing))
    called_kept operands stay callees.Read few = taking_kept state.input
    called_kept operands stay callees.TaskStart few =
        rw (function_same (numbers K) operands, read_same operands stay 1) (started_kept state stays (function_in (slice_get operands 0)) (operand state.running.registers operands 1) few)
    called_kept operands stay callees.Poll few = both_go _ _ (polled_goes keepings one other state (λ event. refl) stays)
    called_kept operands stay callees.Check few =
        rw (read_same operands stay 2, read_same operands stay 1)
        (checked_kept (accessed one.layouts state.objects (cell_named (number_in (operand state.running.registers operands 2))) (pointer_in (operand state.running.registers operands 1))))
    called_kept operands stay callees.Same few =
        rw (read_same operands stay 1, read_same operands stay 3)
        (both_go _ _ (each (number (bit (same_pointer (pointer_in (operand state.running.registers operands 1)) (pointer_in (operand state.running.registers operands 3)))))))
