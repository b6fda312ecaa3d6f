-- Each frame that isn't running stands at a call of a function, a poll or a `task_start`, in each state that a run comes to.
use Rattle.std.proofs.Common.{◌≡◌, ℕ, ◌+◌, Bool, true, false, ◌==◌, List, [], ◌∷◌, ◌++◌, length, map, take, drop, Option, Some, None, Result, Ok, Err, refl, sym, ap, subst, ◌∙◌}
use Rattle.std.specs.Prelude.{ℤ, pos, nat_lt, int_lt, if◌then◌else◌, slice_get, slice_set, unsigned_abs}
use Rattle.std.specs.Int.{w64, cast_unsigned}
use Rattle.std.specs.List.{sum_by}
use Rattle.std.specs.Option.{option_map_or}
use Rattle.sp_ids.specs.Numbers.{signed}
use Rattle.sp_ids.specs.declared.ends.End.{End}
use Rattle.sp_ids.specs.declared.ends.End.TheVariants as ended
use Rattle.sp_ids.specs.declared.ends.Trap.{Trap}
use Rattle.sp_ids.specs.declared.ends.Trap.TheVariants as traps
use Rattle.ir_ast.specs.declared.ops.Op.{Op}
use Rattle.ir_ast.specs.declared.ops.Op.TheVariants as ops
use Rattle.ir_ast.specs.declared.ops.Operand.{Operand}
use Rattle.ir_ast.specs.declared.ops.Callee.{Callee}
use Rattle.ir_ast.specs.declared.ops.Callee.TheVariants as callees
use Rattle.ir_ast.specs.Objects.{Datum, number, pointer, Object, footprint}
use Rattle.object_meaning.specs.Accesses.{Place, accessed, cell_named}
use Rattle.object_meaning.specs.Calls.{allocated, allocating, called, checked, entering, function_in, made, stepped, taking}
use Rattle.object_meaning.specs.Comparisons.{bit, same_pointer}
use Rattle.object_meaning.specs.Computing.{value_of_line}
use Rattle.object_meaning.specs.Effects.{Effect, goes_on, prints, ends, Progress, after, printed_line}
use Rattle.object_meaning.specs.Frames.{entered, grouped, passed, resumed}
use Rattle.object_meaning.specs.Jumps.{branch_taken, case_taken, jumped, label_at}
use Rattle.object_meaning.specs.Lines.{Line}
use Rattle.object_meaning.specs.Numbers.{width_of}
use Rattle.object_meaning.specs.Outcomes.{opening, proceeds}
use Rattle.object_meaning.specs.Registers.{nothing, number_in, operand, pointer_in, value}
use Rattle.object_meaning.specs.Runs.{Go, Reaches}
use Rattle.object_meaning.specs.States.{Frame, State, Setting}
use Rattle.object_meaning.specs.Steps.{accesses, acts, loading, returned, settled, step, steps_at, storing}
use Rattle.object_meaning.specs.Tasks.{handed_over, polled, started, switched, switched_to, task_ended, with_event}
use Rattle.object_meaning.proofs.TaskLists.{Each, EachTask, each_get, each_push, each_set}
use Rattle.object_meaning.proofs.RunLaws.{gone, not_over, reaches_keep}

abbrev pub waits_for : Callee → Bool
waits_for (callees.Fun func) = true
waits_for callees.TaskStart = true
waits_for callees.Poll = true
waits_for callee = false

abbrev pub waits_at : Op → Bool
waits_at (ops.Call callee types) = waits_for callee
waits_at (ops.Statepoint id callee types) = waits_for callee
waits_at op = false

pub record Waits (frame : Frame) : Type 0 where
  pub call : Line
  pub rest : List Line
  pub is : frame.rest ≡ call ∷ rest
  pub waiting : waits_at call.inst.op ≡ true

pub record AllWait (state : State) : Type 0 where
  pub below : Each Waits state.below
  pub tasks : EachTask Waits state.tasks

-- ---- tasks

switches_to : (state : State) (to : ℕ) (found : Option (List Frame)) → slice_get state.tasks to ≡ found → Waits state.running → AllWait state → AllWait (switched_to state to found)
switches_to state to (Some (frame ∷ below)) is here all =
    let there = each_get Waits state.tasks to (frame ∷ below) all.tasks is in
    record {
      below = there.1;
      tasks = each_set Waits (slice_set state.tasks state.task (state.running ∷ state.below)) to []
          (each_set Waits state.tasks state.task (state.running ∷ state.below) all.tasks (here, all.below)) tt;
    }
switches_to state to (Some []) is here all = all
switches_to state to None is here all = all

switches : (state : State) (to : Option ℕ) → Waits state.running → AllWait state → AllWait (option_map_or (switched state) to state)
switches state (Some to) here all = switches_to state to (slice_get state.tasks to) refl here all
switches state None here all = all

resumes : (state : State) (answer : Datum) → AllWait state → AllWait (resumed state answer)
resumes state answer all = record { below = all.below; tasks = all.tasks }

polls : (setting : Setting) (state : State) → Waits state.running → AllWait state → AllWait (polled setting state)
polls setting state here all =
    let now = with_event state in
    resumes (option_map_or (switched now) (setting.go now.events) now) nothing
    (switches now (setting.go now.events) here (record { below = all.below; tasks = all.tasks }))

-- ---- what a step leads to

abbrev After : Effect State → Type 0
After (goes_on state) = AllWait state
After (prints word state) = AllWait state
After (ends end state) = AllWait state

after_stepped : (setting : Setting) (state : State) (next : State → Effect State) → AllWait state → After (next (record state { steps = state.steps + 1 })) → After (stepped setting state next)
after_stepped setting state next all so = by (nat_lt state.steps setting.bound)
  where
    by : (b : Bool) → After (if b then next (record state { steps = state.steps + 1 }) else ends ended.OutOfSteps state)
    by true = so
    by false = all

after_entering : (setting : Setting) (func : ℕ) (arguments : List Datum) (state : State) → Waits state.running → AllWait state → After (entering setting func arguments state)
after_entering setting func arguments state here all = by (nat_lt (length state.below + 1) 4096)
  where
    by : (b : Bool) → After (if b then goes_on (record state { running = entered setting func arguments; below = state.running ∷ state.below }) else ends (ended.Trap traps.Depth) state)
    by true = record { below = (here, all.below); tasks = all.tasks }
    by false = all

after_handed_over : (state : State) (frames : Option (List Frame)) → slice_get state.tasks 0 ≡ frames → AllWait state → After (handed_over state frames)
after_handed_over state (Some (frame ∷ below)) is all =
    let there = each_get Waits state.tasks 0 (frame ∷ below) all.tasks is in
    resumes (record state { running = frame; below = below; task = 0; tasks = slice_set state.tasks 0 [] }) nothing
    (record { below = there.1; tasks = each_set Waits state.tasks 0 [] all.tasks tt })
after_handed_over state (Some []) is all = all
after_handed_over state None is all = all

after_task_ended : (state : State) (width : ℕ) (answer : Datum) → AllWait state → After (task_ended state width answer)
after_task_ended state width answer all = by (state.task == 0)
  where
    by : (b : Bool) → After (if b then ends (ended.Return (signed width (number_in answer))) state else handed_over state (slice_get state.tasks 0))
    by true = all
    by false = after_handed_over state (slice_get state.tasks 0) refl all

after_returned : (width : ℕ) (answer : Datum) (below : List Frame) (state : State) → Each Waits below → AllWait state → After (returned width answer below state)
after_returned width answer [] state waiting all = after_task_ended state width answer all
after_returned width answer (caller ∷ below) state waiting all =
    resumes (record state { running = caller; below = below }) answer (record { below = waiting.1; tasks = all.tasks })

after_started : (setting : Setting) (state : State) (func : ℕ) (argument : Datum) → Waits state.running → AllWait state → After (started setting state func argument)
after_started setting state func argument here all = by (nat_lt (length state.tasks) 64)
  where
    by : (b : Bool) → After (if b
        then goes_on (record state {
          running = entered setting func (argument ∷ []);
          below = [];
          task = length state.tasks;
          tasks = slice_set state.tasks state.task (state.running ∷ state.below) ++ [] ∷ [];
        })
        else ends (ended.Trap traps.Tasks) state)
    by true = record {
      below = tt;
      tasks = each_push Waits (slice_set state.tasks state.task (state.running ∷ state.below)) (each_set Waits state.tasks state.task (state.running ∷ state.below) all.tasks (here, all.below));
    }
    by false = all

module _ (setting : Setting) (state : State) (all : AllWait state) (done : Datum → State) (there : (answer : Datum) → AllWait (done answer)) where
  like : (answer : Datum) (next : State) → next.below ≡ (done answer).below → next.tasks ≡ (done answer).tasks → AllWait next
  like answer next below tasks =
      record { below = subst (Each Waits) (sym below) (there answer).below; tasks = subst (EachTask Waits) (sym tasks) (there answer).tasks }

  after_allocated : (object : Object) → After (allocated setting state done object)
  after_allocated object = by (nat_lt 67108864 (sum_by (footprint setting.layouts) (state.objects ++ object ∷ [])))
    where
      by : (b : Bool) → After (if b then ends (ended.Trap traps.Full) (with_event state) else goes_on (record (with_event (done (pointer (record { object = length state.objects + 1; offset = 0 })))) {
        objects = state.objects ++ object ∷ [];
      }))
      by true = record { below = all.below; tasks = all.tasks }
      by false =
          like (pointer (record { object = length state.objects + 1; offset = 0 }))
          (record (with_event (done (pointer (record { object = length state.objects + 1; offset = 0 })))) { objects = state.objects ++ object ∷ [] }) refl refl

  after_allocating : (layout : ℕ) (count : ℤ) → After (allocating setting state done layout count)
  after_allocating layout count = by (int_lt count (pos 0))
    where
      by : (b : Bool) → After (if b then ends (ended.Trap traps.Count) (with_event state) else allocated setting state done (made setting.layouts layout (unsigned_abs count)))
      by true = record { below = all.below; tasks = all.tasks }
      by false = after_allocated (made setting.layouts layout (unsigned_abs count))

  after_taking : (input : List ℤ) → After (taking state done input)
  after_taking [] = all
  after_taking (first ∷ rest) = like (number (cast_unsigned w64 first)) (record (done (number (cast_unsigned w64 first))) { input = rest }) refl refl

  after_checked : (result : Result Place Trap) → After (checked state done result)
  after_checked (Ok place) = there nothing
  after_checked (Err trap) = all

  after_called : (callee : Callee) (operands : List Operand) → (waits_for callee ≡ true → Waits state.running) → After (called setting state done callee operands)
  after_called (callees.Fun func) operands here =
      after_stepped setting state (entering setting func.0 (map (value state.running.registers) operands)) all
      (after_entering setting func.0 (map (value state.running.registers) operands) (record state { steps = state.steps + 1 })
      (record { call = (here refl).call; rest = (here refl).rest; is = (here refl).is; waiting = (here refl).waiting })
      (record { below = all.below; tasks = all.tasks }))
  after_called (callees.New layout) operands here = after_allocating layout (signed 64 (number_in (operand state.running.registers operands 0)))
  after_called callees.Print operands here = there nothing
  after_called callees.Read operands here = after_taking state.input
  after_called callees.TaskStart operands here =
      after_started setting state (function_in (slice_get operands 0)) (operand state.running.registers operands 1) (here refl) all
  after_called callees.Poll operands here = polls setting state (here refl) all
  after_called callees.Check operands here =
      after_checked
      (accessed setting.layouts state.objects (cell_named (number_in (operand state.running.registers operands 2))) (pointer_in (operand state.running.registers operands 1)))
  after_called callees.Same operands here =
      there (number (bit (same_pointer (pointer_in (operand state.running.registers operands 1)) (pointer_in (operand state.running.registers operands 3)))))

module _ (setting : Setting) (state : State) (all : AllWait state) (line : Line) (rest : List Line) (is : state.running.rest ≡ line ∷ rest) where
  keeps_passed : (result : Datum) → AllWait (passed state line rest result)
  keeps_passed result = record { below = all.below; tasks = all.tasks }

  keeps_grouped : (entries : List Operand) (answer : Datum) → AllWait (grouped state entries rest answer)
  keeps_grouped entries answer = record { below = all.below; tasks = all.tasks }

  with_step : AllWait (record state { steps = state.steps + 1 })
  with_step = record { below = all.below; tasks = all.tasks }

  stands_waiting : (op : Op) → line.inst.op ≡ op → waits_at op ≡ true → Waits state.running
  stands_waiting op so waiting = record { call = line; rest = rest; is = is; waiting = ap waits_at so ∙ waiting }

  after_settled : (result : Result Datum Trap) → After (settled state line rest result)
  after_settled (Ok result) = keeps_passed result
  after_settled (Err trap) = all

  after_loading : (result : Result Place Trap) → After (loading state line rest result)
  after_loading (Ok place) = record { below = all.below; tasks = all.tasks }
  after_loading (Err trap) = all

  after_storing : (datum : Datum) (result : Result Place Trap) → After (storing state line rest datum result)
  after_storing datum (Ok place) = record { below = all.below; tasks = all.tasks }
  after_storing datum (Err trap) = all

  after_jump : (block : ℕ) → After (stepped setting state (jumped setting block))
  after_jump block = after_stepped setting state (jumped setting block) all (record { below = all.below; tasks = all.tasks })

  after_acts : (op : Op) → line.inst.op ≡ op → After (acts setting state line rest op)
  after_acts ops.Load so = after_loading (accesses setting state line 0)
  after_acts ops.Store so = after_storing (operand state.running.registers line.inst.operands 0) (accesses setting state line 1)
  after_acts (ops.Call callee types) so =
      after_called setting state all (passed state line rest) keeps_passed callee line.inst.operands (stands_waiting (ops.Call callee types) so)
  after_acts (ops.Statepoint id callee types) so =
      after_called setting state all (grouped state (drop (length types) line.inst.operands) rest) (keeps_grouped (drop (length types) line.inst.operands)) callee
      (take (length types) line.inst.operands) (stands_waiting (ops.Statepoint id callee types) so)
  after_acts ops.Phi so = record { below = all.below; tasks = all.tasks }
  after_acts ops.GcResult so = record { below = all.below; tasks = all.tasks }
  after_acts ops.GcRelocate so = record { below = all.below; tasks = all.tasks }
  after_acts ops.Br so = after_jump (label_at line.inst.labels 0)
  after_acts ops.CondBr so = after_jump (label_at line.inst.labels (branch_taken (operand state.running.registers line.inst.operands 0)))
  after_acts ops.Switch so =
      after_jump (label_at line.inst.labels (case_taken (operand state.running.registers line.inst.operands 0) (drop 1 line.inst.operands)))
  after_acts ops.Ret so =
      after_stepped setting state (returned (width_of line.inst.ty) (operand state.running.registers line.inst.operands 0) state.below) all
      (after_returned (width_of line.inst.ty) (operand state.running.registers line.inst.operands 0) state.below (record state { steps = state.steps + 1 }) all.below with_step)
  after_acts ops.Unreachable so = after_stepped setting state (ends (ended.Trap traps.Unreachable)) all with_step
  after_acts op so = after_settled (value_of_line setting.layouts state.running.registers op line.inst.ty line.inst.operands)

after_at : (setting : Setting) (state : State) (lines : List Line) → state.running.rest ≡ lines → AllWait state → After (steps_at setting state lines)
after_at setting state [] is all = all
after_at setting state (line ∷ rest) is all = after_acts setting state all line rest is line.inst.op refl

-- a step keeps it
pub after_step : (setting : Setting) (state : State) → AllWait state → After (step setting state)
unfolding step
after_step setting state all = after_at setting state state.running.rest refl all

after_effect : (lines : List (List ℕ)) (effect : Effect State) (now : Progress State) → After effect → after lines effect ≡ Go now → AllWait now.state
after_effect lines (goes_on state) now all is = subst (λ (p : Progress State). AllWait p.state) (gone (record { state = state; lines = lines }) now is) all
after_effect lines (prints word state) now all is =
    subst (λ (p : Progress State). AllWait p.state) (gone (record { state = state; lines = printed_line word ∷ lines }) now is) all
after_effect lines (ends end state) now all is = absurd (not_over end (record { state = state; lines = lines }) now is)

-- in each state that a run comes to each frame that isn't running waits
pub all_wait : (setting : Setting) (input : List ℤ) (now : Progress State) → Reaches {E = End} (proceeds setting) (opening setting input) now → AllWait now.state
unfolding proceeds
all_wait setting input now reached =
    reaches_keep (proceeds setting) (λ (p : Progress State). AllWait p.state) (opening setting input) now
    (record { below = tt; tasks = (tt, tt) })
    (λ one other is all. after_effect one.lines (step setting one.state) other (after_step setting one.state all) is) reached
