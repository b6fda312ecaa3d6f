-- Frames that go on, tasks and calls: what a run does, the run of the images does.
use Rattle.std.proofs.Common.{◌≡◌, ◌==◌, ℕ, ◌+◌, Bool, true, false, if◌then◌else◌, List, [], ◌∷◌, ◌++◌, length, map, take, drop, refl, ap, ◌∙◌, arith}
use Rattle.std.specs.Prelude.{Option, Some, None, slice_get, slice_set, ℤ, pos, nat_lt, int_lt, unsigned_abs, Result, Ok, Err}
use Rattle.std.specs.Int.{w64, cast_unsigned}
use Rattle.std.specs.List.{All, sum_by}
use Rattle.std.specs.Option.{option_map, option_map_or}
use Rattle.std.proofs.lemmas.List.{length-map}
use Rattle.std.proofs.lemmas.List.Elements.{All-drop}
use Rattle.tool_io.specs.Counts.{raised}
use Rattle.sp_ids.specs.Numbers.{signed}
use Rattle.sp_ids.specs.declared.ends.End.TheVariants as ended
use Rattle.sp_ids.specs.declared.ends.Trap.{Trap}
use Rattle.sp_ids.specs.declared.ends.Trap.TheVariants as traps
use Rattle.ir_ast.specs.declared.ops.Callee.{Callee}
use Rattle.ir_ast.specs.declared.ops.Callee.TheVariants as callees
use Rattle.ir_ast.specs.declared.ops.Op.{Op}
use Rattle.ir_ast.specs.declared.ops.Op.TheVariants as ops
use Rattle.ir_ast.specs.declared.ops.Operand.{Operand}
use Rattle.ir_ast.specs.Objects.{Datum, number, pointer, Object, footprint}
use Rattle.object_meaning.specs.Accesses.{Place, accessed, cell_named}
use Rattle.object_meaning.specs.Calls.{allocated, allocating, called, checked, entering, function_in, made, stepped, taking}
use Rattle.object_meaning.specs.Comparisons.{bit, same_pointer}
use Rattle.object_meaning.specs.Effects.{Effect, goes_on, ends}
use Rattle.object_meaning.specs.Frames.{answered_by, entered, group_length, is_member, member_write, regrouped, resumed}
use Rattle.object_meaning.specs.Lines.{Line}
use Rattle.object_meaning.specs.Registers.{nothing, number_in, operand, pointer_in, put, put_all, value}
use Rattle.object_meaning.specs.States.{Frame, State, Setting}
use Rattle.object_meaning.specs.Steps.{returned}
use Rattle.object_meaning.specs.Tasks.{handed_over, polled, started, switched, switched_to, task_ended, with_event}
use Rattle.renaming_laws.specs.Renamed.{CalleeTakes, InRoom, Renaming, Takes, renamed}
use Rattle.renaming_laws.specs.Images.{HasImages, Images}
use Rattle.renaming_laws.proofs.ListLaws.{before, behind, drop_behind, take_before}
use Rattle.renaming_laws.proofs.RegisterLaws.{Kept, entered_kept, function_same, operand_kept, put_kept, values_kept}
use Rattle.renaming_laws.proofs.FrontLaws.{images_behind, members_class, members_kept, tested}
use Rattle.renaming_laws.proofs.Related.{EffectKept, FrameGoes, FramesKept, Goes, Lasts, TaskKept, TasksKept, WaitKept, Waits, at_line, both_end, both_go, both_print, built, frame_goes, frames_length, goes, image, line_there, more_frames, no_frames, no_task, one_task, task_get, task_push, task_set, tasks_length, waits}
use Rattle.list_laws.proofs.Places.{drop_map}

-- the setting with other lines, other registers and other names for its functions
abbrev pub with_lines : Setting → (ℕ → ℕ → List Line) → List Line → (ℕ → ℕ) → (ℕ → List ℕ) → Setting
with_lines one lines front registers names = record one { lines = lines; front = front; registers = registers; names = names }

-- a frame behind the lines of a group
abbrev pub behind_group : Frame → List Operand → List Line → Datum → Frame
behind_group frame entries rest answer = record frame {
  rest = behind (tested is_member) rest;
  registers = put_all (map (member_write frame.registers entries answer) (before (tested is_member) rest)) frame.registers;
}

pub regrouped_is : (frame : Frame) (entries : List Operand) (rest : List Line) (answer : Datum) → regrouped frame entries rest answer ≡ behind_group frame entries rest answer
regrouped_is frame entries rest answer =
    ap (λ lines. record frame { rest = lines; registers = put_all (map (member_write frame.registers entries answer) (take (group_length rest) rest)) frame.registers })
    (drop_behind (tested is_member) rest)
    ∙ ap (λ members. record frame { rest = behind (tested is_member) rest; registers = put_all (map (member_write frame.registers entries answer) members) frame.registers })
    (take_before (tested is_member) rest)

module _ (functions : ℕ → Renaming) (one : Setting) (lines : ℕ → ℕ → List Line) (front : List Line) (registers : ℕ → ℕ) (names : ℕ → List ℕ)
    (law : HasImages functions one (with_lines one lines front registers names)) where
  abbrev pub other : Setting
  other = with_lines one lines front registers names

  abbrev pub number_in_frame : Frame → ℕ → ℕ
  number_in_frame frame = (functions frame.func).number

  -- ---- frames

  pub entered_goes : (func : ℕ) (arguments : List Datum) → Takes (functions func) (length arguments)
      → FrameGoes functions (entered one func arguments) (entered other func arguments)
  entered_goes func arguments takes =
      frame_goes (entered one func arguments) (entered other func arguments).rest (entered other func arguments).registers
      (record { images = law.front func takes.called; kept = rw (law.room func, law.now_room func) (entered_kept arguments (law.renaming func) takes.few) })

  pub regrouped_goes : (frame : Frame) (rest others lines_there : List Line) (now : List Datum) (entries : List Operand) (answer : Datum)
      → Images functions frame.func rest others → Kept (functions frame.func) frame.registers now → All (InRoom (functions frame.func).room) entries
      → FrameGoes functions (regrouped frame entries rest answer) (regrouped (image frame lines_there now) (map (renamed (number_in_frame frame)) entries) others answer)
  regrouped_goes frame rest others lines_there now entries answer images kept inside =
      rw (regrouped_is frame entries rest answer, regrouped_is (image frame lines_there now) (map (renamed (number_in_frame frame)) entries) others answer)
      (frame_goes (behind_group frame entries rest answer) (behind (tested is_member) others)
      (put_all (map (member_write now (map (renamed (number_in_frame frame)) entries) answer) (before (tested is_member) others)) now)
      (record {
        images = images_behind is_member members_class rest others images;
        kept = members_kept functions frame.func (law.renaming frame.func) frame.registers now kept entries inside answer rest others images frame.registers now kept;
      }))

  answered_goes : (frame : Frame) (line : Line) (name : Option (List ℕ)) (rest others : List Line) (now : List Datum) (answer : Datum) → WaitKept functions frame line rest others now
      → (op : Op) → FrameGoes functions (answered_by (at_line frame line rest) line rest answer op)
      (answered_by (image frame (line_there functions frame name line ∷ others) now) (line_there functions frame name line) others answer op)
  answered_goes frame line name rest others now answer kept (ops.Statepoint id callee types) =
      rw (drop_map (renamed (number_in_frame frame)) (length types) line.inst.operands)
      (regrouped_goes (at_line frame line rest) rest others (line_there functions frame name line ∷ others) now (drop (length types) line.inst.operands) answer kept.images kept.kept
      (All-drop (InRoom (functions frame.func).room) (length types) line.inst.operands kept.of.operands))
  answered_goes frame line name rest others now answer kept op =
      frame_goes (record frame { rest = rest; registers = put line.to answer frame.registers }) others (put (option_map (number_in_frame frame) line.to) answer now)
      (record { images = kept.images; kept = put_kept line.to answer (law.renaming frame.func) kept.of.result kept.kept })

  -- a frame that waited goes on with its answer
  pub resumed_goes : (state there : State) (answer : Datum) → Waits functions state there → Goes functions (resumed state answer) (resumed there answer)
  resumed_goes _ _ answer (waits state line name rest others now below tasks kept frames all) =
      goes (record state { running = answered_by (at_line state.running line rest) line rest answer line.inst.op })
      (answered_by (image state.running (line_there functions state.running name line ∷ others) now) (line_there functions state.running name line) others answer line.inst.op)
      below tasks (answered_goes state.running line name rest others now answer kept line.inst.op) frames all

  -- ---- tasks

  event_waits : (state there : State) → Waits functions state there → Waits functions (with_event state) (with_event there)
  event_waits _ _ (waits state line name rest others now below tasks kept frames all) =
      waits (record state { events = raised state.events }) line name rest others now below tasks kept frames all

  switched_waits : (state there : State) (to : ℕ) → Waits functions state there → Waits functions (switched state to) (switched there to)
  switched_waits _ _ to (waits state line name rest others now below tasks kept frames all) =
      by (slice_get state.tasks to) (slice_get tasks to) (task_get functions state.tasks tasks to all)
    where
      by : (found found_there : Option (List Frame)) → TaskKept functions found found_there
          → Waits functions (switched_to (record state { running = at_line state.running line rest }) to found)
          (switched_to (built functions state (image state.running (line_there functions state.running name line ∷ others) now) below tasks) to found_there)
      by _ _ no_task = waits state line name rest others now below tasks kept frames all
      by _ _ (one_task _ _ no_frames) = waits state line name rest others now below tasks kept frames all
      by _ _ (one_task _ _ (more_frames frame its_line its_name its_rest its_others its_now its_frames its_images its_kept its_below)) =
          waits
          (record state {
            running = frame;
            below = its_frames;
            task = to;
            tasks = slice_set (slice_set state.tasks state.task (at_line state.running line rest ∷ state.below)) to [];
          })
          its_line its_name its_rest its_others its_now its_images
          (slice_set (slice_set tasks state.task (image state.running (line_there functions state.running name line ∷ others) now ∷ below)) to [])
          its_kept its_below
          (task_set functions (slice_set state.tasks state.task (at_line state.running line rest ∷ state.below))
          (slice_set tasks state.task (image state.running (line_there functions state.running name line ∷ others) now ∷ below)) to [] []
          (task_set functions state.tasks tasks state.task (at_line state.running line rest ∷ state.below)
          (image state.running (line_there functions state.running name line ∷ others) now ∷ below) all
          (more_frames state.running line name rest others now state.below below kept frames))
          no_frames)

  pub polled_goes : (state there : State) → Waits functions state there → Goes functions (polled one state) (polled other there)
  polled_goes _ _ (waits state line name rest others now below tasks kept waiting all) =
      by (one.go (raised state.events)) (event_waits _ _ (waits state line name rest others now below tasks kept waiting all))
    where
      by : (to : Option ℕ)
          → Waits functions (with_event (record state { running = at_line state.running line rest }))
          (with_event (built functions state (image state.running (line_there functions state.running name line ∷ others) now) below tasks))
          → Goes functions
          (resumed (option_map_or (switched (with_event (record state { running = at_line state.running line rest }))) to (with_event (record state { running = at_line state.running line rest }))) nothing)
          (resumed (option_map_or (switched (with_event (built functions state (image state.running (line_there functions state.running name line ∷ others) now) below tasks))) to
          (with_event (built functions state (image state.running (line_there functions state.running name line ∷ others) now) below tasks))) nothing)
      by None so = resumed_goes _ _ nothing so
      by (Some to) so = resumed_goes _ _ nothing (switched_waits _ _ to so)

  -- ---- states that differ from related ones in what both have

  objects_go : (state there : State) (objects : List Object) → Goes functions state there
      → Goes functions (record (with_event state) { objects = objects }) (record (with_event there) { objects = objects })
  objects_go _ _ objects (goes state running below tasks frame frames all) =
      goes (record state { events = raised state.events; objects = objects }) running below tasks frame frames all

  pub stored_go : (state there : State) (objects : List Object) → Goes functions state there → Goes functions (record state { objects = objects }) (record there { objects = objects })
  stored_go _ _ objects (goes state running below tasks frame frames all) = goes (record state { objects = objects }) running below tasks frame frames all

  input_goes : (state there : State) (input : List ℤ) → Goes functions state there → Goes functions (record state { input = input }) (record there { input = input })
  input_goes _ _ input (goes state running below tasks frame frames all) = goes (record state { input = input }) running below tasks frame frames all

  -- ---- steps, returns and ends of tasks

  module _ (state : State) (running : Frame) (below : List Frame) (tasks : List (List Frame)) (same_func : running.func ≡ state.running.func)
      (frames : FramesKept functions state.below below) (all : TasksKept functions state.tasks tasks) where
    pub lasts_so : Lasts functions state (built functions state running below tasks)
    lasts_so = record { func = same_func; steps = refl; events = refl; objects = refl; below = frames }

    pub stepped_kept : (next next_there : State → Effect State)
        → EffectKept functions (next (record state { steps = state.steps + 1 })) (next_there (built functions (record state { steps = state.steps + 1 }) running below tasks))
        → EffectKept functions (stepped one state next) (stepped other (built functions state running below tasks) next_there)
    stepped_kept next next_there so = by (nat_lt state.steps one.bound)
      where
        by : (b : Bool) → EffectKept functions (if b then next (record state { steps = state.steps + 1 }) else ends ended.OutOfSteps state)
            (if b then next_there (built functions (record state { steps = state.steps + 1 }) running below tasks) else ends ended.OutOfSteps (built functions state running below tasks))
        by true = so
        by false = both_end ended.OutOfSteps state (built functions state running below tasks) lasts_so

    handed_kept : (found found_there : Option (List Frame)) → TaskKept functions found found_there
        → EffectKept functions (handed_over state found) (handed_over (built functions state running below tasks) found_there)
    handed_kept _ _ no_task = both_end (ended.Trap traps.Unreachable) state (built functions state running below tasks) lasts_so
    handed_kept _ _ (one_task _ _ no_frames) = both_end (ended.Trap traps.Unreachable) state (built functions state running below tasks) lasts_so
    handed_kept _ _ (one_task _ _ (more_frames frame line name rest others now its_frames its_images its_kept its_below)) =
        both_go _ _
        (resumed_goes (record state { running = at_line frame line rest; below = its_frames; task = 0; tasks = slice_set state.tasks 0 [] })
        (record state { running = image frame (line_there functions frame name line ∷ others) now; below = its_images; task = 0; tasks = slice_set tasks 0 [] }) nothing
        (waits (record state { running = frame; below = its_frames; task = 0; tasks = slice_set state.tasks 0 [] }) line name rest others now its_images (slice_set tasks 0 []) its_kept its_below
        (task_set functions state.tasks tasks 0 [] [] all no_frames)))

    ended_kept : (width : ℕ) (answer : Datum) → EffectKept functions (task_ended state width answer) (task_ended (built functions state running below tasks) width answer)
    ended_kept width answer = by (state.task == 0)
      where
        by : (b : Bool) → EffectKept functions (if b then ends (ended.Return (signed width (number_in answer))) state else handed_over state (slice_get state.tasks 0))
            (if b then ends (ended.Return (signed width (number_in answer))) (built functions state running below tasks) else handed_over (built functions state running below tasks) (slice_get tasks 0))
        by true = both_end (ended.Return (signed width (number_in answer))) state (built functions state running below tasks) lasts_so
        by false = handed_kept (slice_get state.tasks 0) (slice_get tasks 0) (task_get functions state.tasks tasks 0 all)

    pub returned_kept : (width : ℕ) (answer : Datum) (callers callers_there : List Frame) → FramesKept functions callers callers_there
        → EffectKept functions (returned width answer callers state) (returned width answer callers_there (built functions state running below tasks))
    returned_kept width answer _ _ no_frames = ended_kept width answer
    returned_kept width answer _ _ (more_frames frame line name rest others now its_frames its_images its_kept its_below) =
        both_go _ _
        (resumed_goes (record state { running = at_line frame line rest; below = its_frames })
        (built functions state (image frame (line_there functions frame name line ∷ others) now) its_images tasks) answer
        (waits (record state { running = frame; below = its_frames }) line name rest others now its_images tasks its_kept its_below all))

  -- ---- calls

  module _ (state : State) (line : Line) (name : Option (List ℕ)) (rest others : List Line) (now : List Datum) (below : List Frame) (tasks : List (List Frame))
      (kept : WaitKept functions state.running line rest others now) (frames : FramesKept functions state.below below) (all : TasksKept functions state.tasks tasks) where
    -- the state at the line, and the other one at its image
    abbrev pub here : State
    here = record state { running = at_line state.running line rest }

    abbrev pub frame_there : Frame
    frame_there = image state.running (line_there functions state.running name line ∷ others) now

    abbrev pub there : State
    there = built functions state frame_there below tasks

    pub lasts : Lasts functions here there
    lasts = record { func = refl; steps = refl; events = refl; objects = refl; below = frames }

    event_lasts : Lasts functions (with_event here) (with_event there)
    event_lasts = record { func = refl; steps = refl; events = refl; objects = refl; below = frames }

    entering_kept : (func : ℕ) (arguments : List Datum) → Takes (functions func) (length arguments)
        → EffectKept functions (entering one func arguments here) (entering other func arguments there)
    entering_kept func arguments few = rw (frames_length functions state.below below frames) (by (nat_lt (length state.below + 1) 4096))
      where
        by : (b : Bool) → EffectKept functions
            (if b then goes_on (record here { running = entered one func arguments; below = here.running ∷ here.below }) else ends (ended.Trap traps.Depth) here)
            (if b then goes_on (record there { running = entered other func arguments; below = there.running ∷ there.below }) else ends (ended.Trap traps.Depth) there)
        by true =
            both_go _ _
            (goes (record state { running = entered one func arguments; below = at_line state.running line rest ∷ state.below }) (entered other func arguments) (frame_there ∷ below) tasks
            (entered_goes func arguments few) (more_frames state.running line name rest others now state.below below kept frames) all)
        by false = both_end (ended.Trap traps.Depth) here there lasts

    started_kept : (func : ℕ) (argument : Datum) → Takes (functions func) 1 → EffectKept functions (started one here func argument) (started other there func argument)
    started_kept func argument few = rw (tasks_length functions state.tasks tasks all) (by (nat_lt (length state.tasks) 64))
      where
        by : (b : Bool) → EffectKept functions
            (if b then goes_on (record here {
              running = entered one func (argument ∷ []);
              below = [];
              task = length state.tasks;
              tasks = slice_set state.tasks state.task (here.running ∷ here.below) ++ [] ∷ [];
            }) else ends (ended.Trap traps.Tasks) here)
            (if b then goes_on (record there {
              running = entered other func (argument ∷ []);
              below = [];
              task = length state.tasks;
              tasks = slice_set tasks state.task (there.running ∷ there.below) ++ [] ∷ [];
            }) else ends (ended.Trap traps.Tasks) there)
        by true =
            both_go _ _
            (goes (record state {
              running = entered one func (argument ∷ []);
              below = [];
              task = length state.tasks;
              tasks = slice_set state.tasks state.task (at_line state.running line rest ∷ state.below) ++ [] ∷ [];
            }) (entered other func (argument ∷ [])) [] (slice_set tasks state.task (frame_there ∷ below) ++ [] ∷ [])
            (entered_goes func (argument ∷ []) few) no_frames
            (task_push functions (slice_set state.tasks state.task (at_line state.running line rest ∷ state.below)) (slice_set tasks state.task (frame_there ∷ below)) [] []
            (task_set functions state.tasks tasks state.task (at_line state.running line rest ∷ state.below) (frame_there ∷ below) all
            (more_frames state.running line name rest others now state.below below kept frames))
            no_frames))
        by false = both_end (ended.Trap traps.Tasks) here there lasts

  module _ (state : State) (line : Line) (name : Option (List ℕ)) (rest others : List Line) (now : List Datum) (below : List Frame) (tasks : List (List Frame))
      (kept : WaitKept functions state.running line rest others now) (frames : FramesKept functions state.below below) (all : TasksKept functions state.tasks tasks)
      (done done_there : Datum → State) (each : (answer : Datum) → Goes functions (done answer) (done_there answer)) where
    abbrev at_it : State
    at_it = here state line name rest others now below tasks kept frames all

    abbrev at_image : State
    at_image = there state line name rest others now below tasks kept frames all

    allocated_kept : (object : Object) → EffectKept functions (allocated one at_it done object) (allocated other at_image done_there object)
    allocated_kept object = by (nat_lt 67108864 (sum_by (footprint one.layouts) (state.objects ++ object ∷ [])))
      where
        by : (b : Bool) → EffectKept functions
            (if b then ends (ended.Trap traps.Full) (with_event at_it) else goes_on (record (with_event (done (pointer (record { object = length state.objects + 1; offset = 0 })))) {
              objects = state.objects ++ object ∷ [];
            }))
            (if b then ends (ended.Trap traps.Full) (with_event at_image) else goes_on (record (with_event (done_there (pointer (record { object = length state.objects + 1; offset = 0 })))) {
              objects = state.objects ++ object ∷ [];
            }))
        by true = both_end (ended.Trap traps.Full) (with_event at_it) (with_event at_image) (event_lasts state line name rest others now below tasks kept frames all)
        by false = both_go _ _ (objects_go _ _ (state.objects ++ object ∷ []) (each (pointer (record { object = length state.objects + 1; offset = 0 }))))

    allocating_kept : (layout : ℕ) (count : ℤ) → EffectKept functions (allocating one at_it done layout count) (allocating other at_image done_there layout count)
    allocating_kept layout count = by (int_lt count (pos 0))
      where
        by : (b : Bool) → EffectKept functions
            (if b then ends (ended.Trap traps.Count) (with_event at_it) else allocated one at_it done (made one.layouts layout (unsigned_abs count)))
            (if b then ends (ended.Trap traps.Count) (with_event at_image) else allocated other at_image done_there (made one.layouts layout (unsigned_abs count)))
        by true = both_end (ended.Trap traps.Count) (with_event at_it) (with_event at_image) (event_lasts state line name rest others now below tasks kept frames all)
        by false = allocated_kept (made one.layouts layout (unsigned_abs count))

    taking_kept : (input : List ℤ) → EffectKept functions (taking at_it done input) (taking at_image done_there input)
    taking_kept [] = both_end (ended.Trap traps.Input) at_it at_image (lasts state line name rest others now below tasks kept frames all)
    taking_kept (first ∷ more) = both_go _ _ (input_goes _ _ more (each (number (cast_unsigned w64 first))))

    pub checked_kept : (result : Result Place Trap) → EffectKept functions (checked at_it done result) (checked at_image done_there result)
    checked_kept (Ok place) = both_go _ _ (each nothing)
    checked_kept (Err trap) = both_end (ended.Trap trap) at_it at_image (lasts state line name rest others now below tasks kept frames all)

    pub called_kept : (operands : List Operand) → All (InRoom (functions state.running.func).room) operands → (callee : Callee) → CalleeTakes functions callee operands
        → EffectKept functions (called one at_it done callee operands) (called other at_image done_there callee (map (renamed (number_in_frame state.running)) operands))
    called_kept operands inside (callees.Fun func) few =
        rw (values_kept operands inside kept.kept)
        (stepped_kept at_it (frame_there state line name rest others now below tasks kept frames all) below tasks refl frames all
        (entering one func.0 (map (value state.running.registers) operands)) (entering other func.0 (map (value state.running.registers) operands))
        (entering_kept (record state { steps = state.steps + 1 }) line name rest others now below tasks kept frames all func.0 (map (value state.running.registers) operands)
        (record { called = few.called; few = let same = length-map operands (value state.running.registers) in let fits = few.few in omega arith })))
    called_kept operands inside (callees.New layout) few =
        rw (operand_kept operands 0 inside kept.kept) (allocating_kept layout (signed 64 (number_in (operand state.running.registers operands 0))))
    called_kept operands inside callees.Print few =
        rw (operand_kept operands 0 inside kept.kept) (both_print (number_in (operand state.running.registers operands 0)) (done nothing) (done_there nothing) (each nothing))
    called_kept operands inside callees.Read few = taking_kept state.input
    called_kept operands inside callees.TaskStart few =
        rw (function_same (number_in_frame state.running) operands, operand_kept operands 1 inside kept.kept)
        (started_kept state line name rest others now below tasks kept frames all (function_in (slice_get operands 0)) (operand state.running.registers operands 1) few)
    called_kept operands inside callees.Poll few =
        both_go _ _ (polled_goes at_it at_image (waits state line name rest others now below tasks kept frames all))
    called_kept operands inside callees.Check few =
        rw (operand_kept operands 2 inside kept.kept, operand_kept operands 1 inside kept.kept)
        (checked_kept (accessed one.layouts state.objects (cell_named (number_in (operand state.running.registers operands 2))) (pointer_in (operand state.running.registers operands 1))))
    called_kept operands inside callees.Same few =
        rw (operand_kept operands 1 inside kept.kept, operand_kept operands 3 inside kept.kept)
        (both_go _ _ (each (number (bit (same_pointer (pointer_in (operand state.running.registers operands 1)) (pointer_in (operand state.running.registers operands 3)))))))
