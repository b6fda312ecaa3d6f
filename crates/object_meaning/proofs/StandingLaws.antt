-- Where frames stand: the lines of each frame are a rest of its block's lines, in each state that a run comes to.
use Rattle.std.proofs.Common.{◌≡◌, ℕ, ◌+◌, Bool, true, false, ◌==◌, List, [], ◌∷◌, ◌++◌, length, map, take, drop, Option, Some, None, Result, Ok, Err, refl, sym, ap, subst, ◌∙◌}
use Rattle.std.specs.Prelude.{ℤ, pos, nat_lt, int_lt, if◌then◌else◌, slice_get, slice_set, unsigned_abs}
use Rattle.std.specs.Int.{w64, cast_unsigned}
use Rattle.std.specs.List.{sum_by}
use Rattle.std.specs.Option.{option_map_or}
use Rattle.std.proofs.lemmas.List.{drop-drop}
use Rattle.sp_ids.specs.Numbers.{signed}
use Rattle.sp_ids.specs.declared.ends.End.TheVariants as ended
use Rattle.sp_ids.specs.declared.ends.Trap.{Trap}
use Rattle.sp_ids.specs.declared.ends.Trap.TheVariants as traps
use Rattle.ir_ast.specs.declared.ops.Op.{Op}
use Rattle.ir_ast.specs.declared.ops.Op.TheVariants as ops
use Rattle.ir_ast.specs.declared.ops.Operand.{Operand}
use Rattle.ir_ast.specs.declared.ops.Callee.{Callee}
use Rattle.ir_ast.specs.declared.ops.Callee.TheVariants as callees
use Rattle.ir_ast.specs.Objects.{Datum, number, pointer, Object, footprint}
use Rattle.object_meaning.specs.Accesses.{Place, accessed, cell_named}
use Rattle.object_meaning.specs.Calls.{allocated, allocating, called, checked, entering, function_in, made, stepped, taking}
use Rattle.object_meaning.specs.Comparisons.{bit, same_pointer}
use Rattle.object_meaning.specs.Computing.{value_of_line}
use Rattle.object_meaning.specs.Effects.{Effect, goes_on, prints, ends, Progress, after, printed_line}
use Rattle.object_meaning.specs.Frames.{answered_at, answered_by, entered, group_length, grouped, passed, resumed}
use Rattle.object_meaning.specs.Jumps.{arrived, branch_taken, case_taken, jumped, label_at, phi_count}
use Rattle.object_meaning.specs.Lines.{Line}
use Rattle.object_meaning.specs.Numbers.{width_of}
use Rattle.object_meaning.specs.Registers.{nothing, number_in, operand, pointer_in, value}
use Rattle.object_meaning.specs.Runs.{Go}
use Rattle.object_meaning.specs.States.{Frame, State, Setting}
use Rattle.object_meaning.specs.Steps.{accesses, acts, loading, returned, settled, step, steps_at, storing}
use Rattle.object_meaning.specs.Tasks.{handed_over, polled, started, switched, switched_to, task_ended, with_event}
use Rattle.object_meaning.proofs.TaskLists.{Each, EachTask, each_get, each_push, each_set}
use Rattle.object_meaning.proofs.RunLaws.{gone, not_over}
use Rattle.std.proofs.Math.Seq.{drop-append_seam as drop_front}

-- a frame stands behind so many lines of its block. The lines before the first block stand before those of each block, so
-- that a new frame stands in its block too
pub record Stands (setting : Setting) (func block : ℕ) (rest : List Line) : Type 0 where
  pub behind : ℕ
  pub is : rest ≡ drop behind (setting.front ++ setting.lines func block)

abbrev pub FrameStands : Setting → Frame → Type 0
FrameStands setting frame = Stands setting frame.func frame.block frame.rest

pub record AllStand (setting : Setting) (state : State) : Type 0 where
  pub running : FrameStands setting state.running
  pub below : Each (FrameStands setting) state.below
  pub tasks : EachTask (FrameStands setting) state.tasks

-- ---- frames

module _ (setting : Setting) where
  further : (func block count : ℕ) (rest : List Line) → Stands setting func block rest → Stands setting func block (drop count rest)
  further func block count rest stands = record {
    behind = stands.behind + count;
    is = ap (drop count) stands.is ∙ drop-drop count stands.behind (setting.front ++ setting.lines func block);
  }

  behind_one : (func block : ℕ) (line : Line) (rest : List Line) → Stands setting func block (line ∷ rest) → Stands setting func block rest
  behind_one func block line rest stands = further func block 1 (line ∷ rest) stands

  stands_entered : (func : ℕ) (arguments : List Datum) → FrameStands setting (entered setting func arguments)
  stands_entered func arguments = record { behind = 0; is = refl }

  stands_arrived : (frame : Frame) (block : ℕ) → FrameStands setting (arrived frame block (setting.lines frame.func block))
  stands_arrived frame block =
      further frame.func block (phi_count (setting.lines frame.func block)) (setting.lines frame.func block)
      (record { behind = length setting.front; is = sym (drop_front setting.front (setting.lines frame.func block)) })

  stands_answered : (frame : Frame) (call : Line) (rest : List Line) (answer : Datum) (op : Op) → Stands setting frame.func frame.block rest
      → FrameStands setting (answered_by frame call rest answer op)
  stands_answered frame call rest answer (ops.Statepoint id callee types) stands = further frame.func frame.block (group_length rest) rest stands
  stands_answered frame call rest answer _ stands = stands

  answers : (frame : Frame) (lines : List Line) (answer : Datum) → frame.rest ≡ lines → FrameStands setting frame → FrameStands setting (answered_at frame lines answer)
  answers frame [] answer is stands = stands
  answers frame (call ∷ rest) answer is stands =
      stands_answered frame call rest answer call.inst.op (behind_one frame.func frame.block call rest (subst (Stands setting frame.func frame.block) is stands))

  resumes : (state : State) (answer : Datum) → AllStand setting state → AllStand setting (resumed state answer)
  resumes state answer all = record { running = answers state.running state.running.rest answer refl all.running; below = all.below; tasks = all.tasks }

  -- ---- tasks

  switches_to : (state : State) (to : ℕ) (found : Option (List Frame)) → slice_get state.tasks to ≡ found → AllStand setting state → AllStand setting (switched_to state to found)
  switches_to state to (Some (frame ∷ below)) is all =
      let there = each_get (FrameStands setting) state.tasks to (frame ∷ below) all.tasks is in
      record {
        running = there.0;
        below = there.1;
        tasks = each_set (FrameStands setting) (slice_set state.tasks state.task (state.running ∷ state.below)) to []
            (each_set (FrameStands setting) state.tasks state.task (state.running ∷ state.below) all.tasks (all.running, all.below)) tt;
      }
  switches_to state to (Some []) is all = all
  switches_to state to None is all = all

  switches : (state : State) (to : Option ℕ) → AllStand setting state → AllStand setting (option_map_or (switched state) to state)
  switches state (Some to) all = switches_to state to (slice_get state.tasks to) refl all
  switches state None all = all

  polls : (state : State) → AllStand setting state → AllStand setting (polled setting state)
  polls state all =
      let now = with_event state in
      let next = option_map_or (switched now) (setting.go now.events) now in
      resumes next nothing (switches now (setting.go now.events) (record { running = all.running; below = all.below; tasks = all.tasks }))

  -- ---- what a step leads to

  abbrev After : Effect State → Type 0
  After (goes_on state) = AllStand setting state
  After (prints word state) = AllStand setting state
  After (ends end state) = AllStand setting state

  after_stepped : (state : State) (next : State → Effect State) → AllStand setting state → After (next (record state { steps = state.steps + 1 })) → After (stepped setting state next)
  after_stepped state next all so = by (nat_lt state.steps setting.bound)
    where
      by : (b : Bool) → After (if b then next (record state { steps = state.steps + 1 }) else ends ended.OutOfSteps state)
      by true = so
      by false = all

  after_entering : (func : ℕ) (arguments : List Datum) (state : State) → AllStand setting state → After (entering setting func arguments state)
  after_entering func arguments state all = by (nat_lt (length state.below + 1) 4096)
    where
      by : (b : Bool) → After (if b then goes_on (record state { running = entered setting func arguments; below = state.running ∷ state.below }) else ends (ended.Trap traps.Depth) state)
      by true = record { running = stands_entered func arguments; below = (all.running, all.below); tasks = all.tasks }
      by false = all

  after_handed_over : (state : State) (frames : Option (List Frame)) → slice_get state.tasks 0 ≡ frames → AllStand setting state → After (handed_over state frames)
  after_handed_over state (Some (frame ∷ below)) is all =
      let there = each_get (FrameStands setting) state.tasks 0 (frame ∷ below) all.tasks is in
      resumes (record state { running = frame; below = below; task = 0; tasks = slice_set state.tasks 0 [] }) nothing
      (record { running = there.0; below = there.1; tasks = each_set (FrameStands setting) state.tasks 0 [] all.tasks tt })
  after_handed_over state (Some []) is all = all
  after_handed_over state None is all = all

  after_task_ended : (state : State) (width : ℕ) (answer : Datum) → AllStand setting state → After (task_ended state width answer)
  after_task_ended state width answer all = by (state.task == 0)
    where
      by : (b : Bool) → After (if b then ends (ended.Return (signed width (number_in answer))) state else handed_over state (slice_get state.tasks 0))
      by true = all
      by false = after_handed_over state (slice_get state.tasks 0) refl all

  after_returned : (width : ℕ) (answer : Datum) (below : List Frame) (state : State) → Each (FrameStands setting) below → AllStand setting state → After (returned width answer below state)
  after_returned width answer [] state waiting all = after_task_ended state width answer all
  after_returned width answer (caller ∷ below) state waiting all =
      resumes (record state { running = caller; below = below }) answer (record { running = waiting.0; below = waiting.1; tasks = all.tasks })

  after_started : (state : State) (func : ℕ) (argument : Datum) → AllStand setting state → After (started setting state func argument)
  after_started state func argument all = by (nat_lt (length state.tasks) 64)
    where
      by : (b : Bool) → After (if b
          then goes_on (record state {
            running = entered setting func (argument ∷ []);
            below = [];
            task = length state.tasks;
            tasks = slice_set state.tasks state.task (state.running ∷ state.below) ++ [] ∷ [];
          })
          else ends (ended.Trap traps.Tasks) state)
      by true = record {
        running = stands_entered func (argument ∷ []);
        below = tt;
        tasks = each_push (FrameStands setting) (slice_set state.tasks state.task (state.running ∷ state.below)) (each_set (FrameStands setting) state.tasks state.task (state.running ∷ state.below) all.tasks (all.running, all.below));
      }
      by false = all

module _ (setting : Setting) (state : State) (all : AllStand setting state) (done : Datum → State) (there : (answer : Datum) → AllStand setting (done answer)) where
  -- what changes besides is no matter
  like : (answer : Datum) (next : State) → next.running ≡ (done answer).running → next.below ≡ (done answer).below → next.tasks ≡ (done answer).tasks → AllStand setting next
  like answer next running below tasks = record {
    running = subst (FrameStands setting) (sym running) (there answer).running;
    below = subst (Each (FrameStands setting)) (sym below) (there answer).below;
    tasks = subst (EachTask (FrameStands setting)) (sym tasks) (there answer).tasks;
  }

  with_one : AllStand setting (with_event state)
  with_one = record { running = all.running; below = all.below; tasks = all.tasks }

  after_allocated : (object : Object) → After setting (allocated setting state done object)
  after_allocated object = by (nat_lt 67108864 (sum_by (footprint setting.layouts) (state.objects ++ object ∷ [])))
    where
      by : (b : Bool) → After setting (if b then ends (ended.Trap traps.Full) (with_event state) else goes_on (record (with_event (done (pointer (record { object = length state.objects + 1; offset = 0 })))) {
        objects = state.objects ++ object ∷ [];
      }))
      by true = with_one
      by false =
          like (pointer (record { object = length state.objects + 1; offset = 0 }))
          (record (with_event (done (pointer (record { object = length state.objects + 1; offset = 0 })))) { objects = state.objects ++ object ∷ [] }) refl refl refl

  after_allocating : (layout : ℕ) (count : ℤ) → After setting (allocating setting state done layout count)
  after_allocating layout count = by (int_lt count (pos 0))
    where
      by : (b : Bool) → After setting (if b then ends (ended.Trap traps.Count) (with_event state) else allocated setting state done (made setting.layouts layout (unsigned_abs count)))
      by true = with_one
      by false = after_allocated (made setting.layouts layout (unsigned_abs count))

  after_taking : (input : List ℤ) → After setting (taking state done input)
  after_taking [] = all
  after_taking (first ∷ rest) = like (number (cast_unsigned w64 first)) (record (done (number (cast_unsigned w64 first))) { input = rest }) refl refl refl

  after_checked : (result : Result Place Trap) → After setting (checked state done result)
  after_checked (Ok place) = there nothing
  after_checked (Err trap) = all

  after_called : (callee : Callee) (operands : List Operand) → After setting (called setting state done callee operands)
  after_called (callees.Fun func) operands =
      after_stepped setting state (entering setting func.0 (map (value state.running.registers) operands)) all
      (after_entering setting func.0 (map (value state.running.registers) operands) (record state { steps = state.steps + 1 })
      (record { running = all.running; below = all.below; tasks = all.tasks }))
  after_called (callees.New layout) operands = after_allocating layout (signed 64 (number_in (operand state.running.registers operands 0)))
  after_called callees.Print operands = there nothing
  after_called callees.Read operands = after_taking state.input
  after_called callees.TaskStart operands =
      after_started setting state (function_in (slice_get operands 0)) (operand state.running.registers operands 1) all
  after_called callees.Poll operands = polls setting state all
  after_called callees.Check operands =
      after_checked
      (accessed setting.layouts state.objects (cell_named (number_in (operand state.running.registers operands 2))) (pointer_in (operand state.running.registers operands 1)))
  after_called callees.Same operands =
      there (number (bit (same_pointer (pointer_in (operand state.running.registers operands 1)) (pointer_in (operand state.running.registers operands 3)))))

module _ (setting : Setting) (state : State) (all : AllStand setting state) (line : Line) (rest : List Line) (is : state.running.rest ≡ line ∷ rest) where
  rest_stands : Stands setting state.running.func state.running.block rest
  rest_stands = behind_one setting state.running.func state.running.block line rest (subst (Stands setting state.running.func state.running.block) is all.running)

  stands_passed : (result : Datum) → AllStand setting (passed state line rest result)
  stands_passed result = record { running = rest_stands; below = all.below; tasks = all.tasks }

  stands_grouped : (entries : List Operand) (answer : Datum) → AllStand setting (grouped state entries rest answer)
  stands_grouped entries answer =
      record { running = further setting state.running.func state.running.block (group_length rest) rest rest_stands; below = all.below; tasks = all.tasks }

  with_step : AllStand setting (record state { steps = state.steps + 1 })
  with_step = record { running = all.running; below = all.below; tasks = all.tasks }

  after_settled : (result : Result Datum Trap) → After setting (settled state line rest result)
  after_settled (Ok result) = stands_passed result
  after_settled (Err trap) = all

  after_loading : (result : Result Place Trap) → After setting (loading state line rest result)
  after_loading (Ok place) = record { running = rest_stands; below = all.below; tasks = all.tasks }
  after_loading (Err trap) = all

  after_storing : (datum : Datum) (result : Result Place Trap) → After setting (storing state line rest datum result)
  after_storing datum (Ok place) = record { running = rest_stands; below = all.below; tasks = all.tasks }
  after_storing datum (Err trap) = all

  after_jump : (block : ℕ) → After setting (stepped setting state (jumped setting block))
  after_jump block =
      after_stepped setting state (jumped setting block) all
      (record { running = stands_arrived setting state.running block; below = all.below; tasks = all.tasks })

  after_acts : (op : Op) → After setting (acts setting state line rest op)
  after_acts ops.Load = after_loading (accesses setting state line 0)
  after_acts ops.Store = after_storing (operand state.running.registers line.inst.operands 0) (accesses setting state line 1)
  after_acts (ops.Call callee types) = after_called setting state all (passed state line rest) stands_passed callee line.inst.operands
  after_acts (ops.Statepoint id callee types) =
      after_called setting state all (grouped state (drop (length types) line.inst.operands) rest) (stands_grouped (drop (length types) line.inst.operands)) callee
      (take (length types) line.inst.operands)
  after_acts ops.Phi = record { running = rest_stands; below = all.below; tasks = all.tasks }
  after_acts ops.GcResult = record { running = rest_stands; below = all.below; tasks = all.tasks }
  after_acts ops.GcRelocate = record { running = rest_stands; below = all.below; tasks = all.tasks }
  after_acts ops.Br = after_jump (label_at line.inst.labels 0)
  after_acts ops.CondBr = after_jump (label_at line.inst.labels (branch_taken (operand state.running.registers line.inst.operands 0)))
  after_acts ops.Switch =
      after_jump (label_at line.inst.labels (case_taken (operand state.running.registers line.inst.operands 0) (drop 1 line.inst.operands)))
  after_acts ops.Ret =
      after_stepped setting state (returned (width_of line.inst.ty) (operand state.running.registers line.inst.operands 0) state.below) all
      (after_returned setting (width_of line.inst.ty) (operand state.running.registers line.inst.operands 0) state.below (record state { steps = state.steps + 1 }) all.below with_step)
  after_acts ops.Unreachable = after_stepped setting state (ends (ended.Trap traps.Unreachable)) all with_step
  after_acts op = after_settled (value_of_line setting.layouts state.running.registers op line.inst.ty line.inst.operands)

after_at : (setting : Setting) (state : State) (lines : List Line) → state.running.rest ≡ lines → AllStand setting state → After setting (steps_at setting state lines)
after_at setting state [] is all = all
after_at setting state (line ∷ rest) is all = after_acts setting state all line rest is line.inst.op

-- a step keeps it
pub after_step : (setting : Setting) (state : State) → AllStand setting state → After setting (step setting state)
unfolding step
after_step setting state all = after_at setting state state.running.rest refl all

after_effect : (setting : Setting) (lines : List (List ℕ)) (effect : Effect State) (now : Progress State) → After setting effect → after lines effect ≡ Go now → AllStand setting now.state
after_effect setting lines (goes_on state) now all is =
    subst (λ (p : Progress State). AllStand setting p.state) (gone (record { state = state; lines = lines }) now is) all
after_effect setting lines (prints word state) now all is =
    subst (λ (p : Progress State). AllStand setting p.state) (gone (record { state = state; lines = printed_line word ∷ lines }) now is) all
after_effect setting lines (ends end state) now all is = absurd (not_over end (record { state = state; lines = lines }) now is)
