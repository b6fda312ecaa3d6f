-- What each step keeps of the frame that it changes, and what a new frame has, each frame of each state has that a run comes to.
use Rattle.std.proofs.Common.{◌≡◌, ℕ, ◌+◌, Bool, true, false, ◌==◌, ◌||◌, List, [], ◌∷◌, ◌++◌, length, map, take, drop, Option, Some, None, Result, Ok, Err, refl, sym, ap, subst, ◌∙◌}
use Rattle.std.specs.Prelude.{ℤ, pos, nat_lt, int_lt, if◌then◌else◌, slice_get, slice_set, unsigned_abs}
use Rattle.std.specs.Int.{w64, cast_unsigned}
use Rattle.std.specs.List.{sum_by}
use Rattle.std.specs.Option.{option_map_or}
use Rattle.sp_ids.specs.Numbers.{signed}
use Rattle.sp_ids.specs.declared.ends.End.{End}
use Rattle.sp_ids.specs.declared.ends.End.TheVariants as ended
use Rattle.sp_ids.specs.declared.ends.Trap.{Trap}
use Rattle.sp_ids.specs.declared.ends.Trap.TheVariants as traps
use Rattle.ir_ast.specs.declared.ops.Op.{Op}
use Rattle.ir_ast.specs.declared.ops.Op.TheVariants as ops
use Rattle.ir_ast.specs.declared.ops.Operand.{Operand}
use Rattle.ir_ast.specs.declared.ops.Callee.{Callee}
use Rattle.ir_ast.specs.declared.ops.Callee.TheVariants as callees
use Rattle.ir_ast.specs.Objects.{Datum, number, pointer, Object, footprint}
use Rattle.ir_ast.specs.Ops.{is_member, is_phi}
use Rattle.object_meaning.specs.Accesses.{Place, accessed as accessed_place, cell_named, loaded}
use Rattle.object_meaning.specs.Calls.{allocated, allocating, called, checked, entering, function_in, made, stepped, taking}
use Rattle.object_meaning.specs.Comparisons.{bit, same_pointer}
use Rattle.object_meaning.specs.Computing.{value_of_line}
use Rattle.object_meaning.specs.Effects.{Effect, goes_on, prints, ends, Progress, after, printed_line}
use Rattle.object_meaning.specs.Frames.{answered as answered_frame, answered_at, answered_by, entered, grouped, passed, resumed}
use Rattle.object_meaning.specs.Jumps.{arrived, branch_taken, case_taken, jumped as jumped_to, label_at}
use Rattle.object_meaning.specs.Lines.{Line}
use Rattle.object_meaning.specs.Numbers.{width_of}
use Rattle.object_meaning.specs.Outcomes.{opening, proceeds}
use Rattle.object_meaning.specs.Registers.{nothing, number_in, operand, pointer_in, value}
use Rattle.object_meaning.specs.Runs.{Go, Next, Reaches}
use Rattle.object_meaning.specs.States.{Frame, State, Setting}
use Rattle.object_meaning.specs.Steps.{accesses, acts, loading, returned, settled, step, steps_at, storing}
use Rattle.object_meaning.specs.Tasks.{handed_over, polled, started, switched, switched_to, task_ended, with_event}
use Rattle.object_meaning.proofs.TaskLists.{Each, EachTask, each_get, each_push, each_set}
use Rattle.object_meaning.proofs.RunLaws.{gone, not_over, reaches_keep, reaches_more}
use Rattle.object_meaning.proofs.WaitingLaws.{AllWait, Waits, all_wait, waits_at}
use Rattle.known_values.specs.Onward.{Onward, LeadsTo, accessed, accesses_cell, answered, behind, by_br, by_condition, by_switch, computed, computes, is_calling, jumped, skipped}
use Rattle.known_values.specs.Statements.{InEachFrame}

-- what a property of frames needs to hold of each: new frames have it, and each step keeps it
pub record IsKept (setting : Setting) (P : Frame → Type 0) : Type 0 where
  pub new : (func : ℕ) (arguments : List Datum) → P (entered setting func arguments)
  pub onward : (frame next : Frame) → P frame → Onward setting frame next → P next

waits_calling : (op : Op) → waits_at op ≡ true → is_calling op ≡ true
waits_calling (ops.Call callee types) waits = refl
waits_calling (ops.Statepoint id callee types) waits = refl
waits_calling op waits = absurd cc

module _ (setting : Setting) (P : Frame → Type 0) (kept : IsKept setting P) where
  abbrev All : State → Type 0
  All state = InEachFrame P state

  -- ---- frames

  answers : (frame : Frame) (answer : Datum) → Waits frame → P frame → P (answered_frame frame answer)
  answers frame answer waits here =
      subst (λ (lines : List Line). P (answered_at frame lines answer)) (sym waits.is)
      (kept.onward frame (answered_by frame waits.call waits.rest answer waits.call.inst.op) here (answered waits.call waits.rest answer waits.is (waits_calling waits.call.inst.op waits.waiting)))

  resumes : (state : State) (answer : Datum) → Waits state.running → All state → All (resumed state answer)
  resumes state answer waits all = record { running = answers state.running answer waits all.running; below = all.below; tasks = all.tasks }

  -- ---- tasks

  abbrev Both : State → Type 0
  Both state = All state × Waits state.running

  switches_to : (state : State) (to : ℕ) (found : Option (List Frame)) → slice_get state.tasks to ≡ found → Waits state.running → AllWait state → All state → Both (switched_to state to found)
  switches_to state to (Some (frame ∷ below)) is here waits all =
      let there = each_get P state.tasks to (frame ∷ below) all.tasks is in
      let waiting = each_get Waits state.tasks to (frame ∷ below) waits.tasks is in (
        record {
          running = there.0;
          below = there.1;
          tasks = each_set P (slice_set state.tasks state.task (state.running ∷ state.below)) to [] (each_set P state.tasks state.task (state.running ∷ state.below) all.tasks (all.running, all.below)) tt;
        },
        waiting.0,
      )
  switches_to state to (Some []) is here waits all = (all, here)
  switches_to state to None is here waits all = (all, here)

  switches : (state : State) (to : Option ℕ) → Waits state.running → AllWait state → All state → Both (option_map_or (switched state) to state)
  switches state (Some to) here waits all = switches_to state to (slice_get state.tasks to) refl here waits all
  switches state None here waits all = (all, here)

  polls : (state : State) → Waits state.running → AllWait state → All state → All (polled setting state)
  polls state here waits all =
      let now = with_event state in
      let next = option_map_or (switched now) (setting.go now.events) now in
      let both : Both next =
      switches now (setting.go now.events) here (record { below = waits.below; tasks = waits.tasks }) (record { running = all.running; below = all.below; tasks = all.tasks }) in
      resumes next nothing both.1 both.0

  -- ---- what a step leads to

  abbrev After : Effect State → Type 0
  After (goes_on state) = All state
  After (prints word state) = All state
  After (ends end state) = Unit {0}

  after_stepped : (state : State) (next : State → Effect State) → After (next (record state { steps = state.steps + 1 })) → After (stepped setting state next)
  after_stepped state next so = by (nat_lt state.steps setting.bound)
    where
      by : (b : Bool) → After (if b then next (record state { steps = state.steps + 1 }) else ends ended.OutOfSteps state)
      by true = so
      by false = tt

  after_entering : (func : ℕ) (arguments : List Datum) (state : State) → All state → After (entering setting func arguments state)
  after_entering func arguments state all = by (nat_lt (length state.below + 1) 4096)
    where
      by : (b : Bool) → After (if b then goes_on (record state { running = entered setting func arguments; below = state.running ∷ state.below }) else ends (ended.Trap traps.Depth) state)
      by true = record { running = kept.new func arguments; below = (all.running, all.below); tasks = all.tasks }
      by false = tt

  after_handed_over : (state : State) (frames : Option (List Frame)) → slice_get state.tasks 0 ≡ frames → AllWait state → All state → After (handed_over state frames)
  after_handed_over state (Some (frame ∷ below)) is waits all =
      let there = each_get P state.tasks 0 (frame ∷ below) all.tasks is in
      let waiting = each_get Waits state.tasks 0 (frame ∷ below) waits.tasks is in
      resumes (record state { running = frame; below = below; task = 0; tasks = slice_set state.tasks 0 [] }) nothing waiting.0
      (record { running = there.0; below = there.1; tasks = each_set P state.tasks 0 [] all.tasks tt })
  after_handed_over state (Some []) is waits all = tt
  after_handed_over state None is waits all = tt

  after_task_ended : (state : State) (width : ℕ) (answer : Datum) → AllWait state → All state → After (task_ended state width answer)
  after_task_ended state width answer waits all = by (state.task == 0)
    where
      by : (b : Bool) → After (if b then ends (ended.Return (signed width (number_in answer))) state else handed_over state (slice_get state.tasks 0))
      by true = tt
      by false = after_handed_over state (slice_get state.tasks 0) refl waits all

  after_returned : (width : ℕ) (answer : Datum) (below : List Frame) (state : State) → Each P below → Each Waits below → AllWait state → All state → After (returned width answer below state)
  after_returned width answer [] state there waiting waits all = after_task_ended state width answer waits all
  after_returned width answer (caller ∷ below) state there waiting waits all =
      resumes (record state { running = caller; below = below }) answer waiting.0 (record { running = there.0; below = there.1; tasks = all.tasks })

  after_started : (state : State) (func : ℕ) (argument : Datum) → All state → After (started setting state func argument)
  after_started state func argument all = by (nat_lt (length state.tasks) 64)
    where
      by : (b : Bool) → After (if b
          then goes_on (record state {
            running = entered setting func (argument ∷ []);
            below = [];
            task = length state.tasks;
            tasks = slice_set state.tasks state.task (state.running ∷ state.below) ++ [] ∷ [];
          })
          else ends (ended.Trap traps.Tasks) state)
      by true = record {
        running = kept.new func (argument ∷ []);
        below = tt;
        tasks = each_push P (slice_set state.tasks state.task (state.running ∷ state.below)) (each_set P state.tasks state.task (state.running ∷ state.below) all.tasks (all.running, all.below));
      }
      by false = tt

  -- ---- calls; `done` is the state that has the answer

  module _ (state : State) (all : All state) (waits : AllWait state) (done : Datum → State) (there : (answer : Datum) → All (done answer)) where
    -- what changes besides is no matter
    like : (answer : Datum) (next : State) → next.running ≡ (done answer).running → next.below ≡ (done answer).below → next.tasks ≡ (done answer).tasks → All next
    like answer next running below tasks = record {
      running = subst P (sym running) (there answer).running;
      below = subst (Each P) (sym below) (there answer).below;
      tasks = subst (EachTask P) (sym tasks) (there answer).tasks;
    }

    after_allocated : (object : Object) → After (allocated setting state done object)
    after_allocated object = by (nat_lt 67108864 (sum_by (footprint setting.layouts) (state.objects ++ object ∷ [])))
      where
        by : (b : Bool) → After (if b then ends (ended.Trap traps.Full) (with_event state) else goes_on (record (with_event (done (pointer (record { object = length state.objects + 1; offset = 0 })))) {
          objects = state.objects ++ object ∷ [];
        }))
        by true = tt
        by false =
            like (pointer (record { object = length state.objects + 1; offset = 0 }))
            (record (with_event (done (pointer (record { object = length state.objects + 1; offset = 0 })))) { objects = state.objects ++ object ∷ [] }) refl refl refl

    after_allocating : (layout : ℕ) (count : ℤ) → After (allocating setting state done layout count)
    after_allocating layout count = by (int_lt count (pos 0))
      where
        by : (b : Bool) → After (if b then ends (ended.Trap traps.Count) (with_event state) else allocated setting state done (made setting.layouts layout (unsigned_abs count)))
        by true = tt
        by false = after_allocated (made setting.layouts layout (unsigned_abs count))

    after_taking : (input : List ℤ) → After (taking state done input)
    after_taking [] = tt
    after_taking (first ∷ rest) = like (number (cast_unsigned w64 first)) (record (done (number (cast_unsigned w64 first))) { input = rest }) refl refl refl

    after_checked : (result : Result Place Trap) → After (checked state done result)
    after_checked (Ok place) = there nothing
    after_checked (Err trap) = tt

    after_called : (callee : Callee) (operands : List Operand) → (waits_at (ops.Call callee []) ≡ true → Waits state.running) → After (called setting state done callee operands)
    after_called (callees.Fun func) operands here =
        after_stepped state (entering setting func.0 (map (value state.running.registers) operands))
        (after_entering func.0 (map (value state.running.registers) operands) (record state { steps = state.steps + 1 })
        (record { running = all.running; below = all.below; tasks = all.tasks }))
    after_called (callees.New layout) operands here = after_allocating layout (signed 64 (number_in (operand state.running.registers operands 0)))
    after_called callees.Print operands here = there nothing
    after_called callees.Read operands here = after_taking state.input
    after_called callees.TaskStart operands here =
        after_started state (function_in (slice_get operands 0)) (operand state.running.registers operands 1) all
    after_called callees.Poll operands here = polls state (here refl) waits all
    after_called callees.Check operands here =
        after_checked
        (accessed_place setting.layouts state.objects (cell_named (number_in (operand state.running.registers operands 2))) (pointer_in (operand state.running.registers operands 1)))
    after_called callees.Same operands here =
        there (number (bit (same_pointer (pointer_in (operand state.running.registers operands 1)) (pointer_in (operand state.running.registers operands 3)))))

  -- ---- a line

  module _ (state : State) (all : All state) (waits : AllWait state) (line : Line) (rest : List Line) (is : state.running.rest ≡ line ∷ rest) where
    running_then : (next : Frame) → Onward setting state.running next → All (record state { running = next })
    running_then next on = record { running = kept.onward state.running next all.running on; below = all.below; tasks = all.tasks }

    with_step : All (record state { steps = state.steps + 1 })
    with_step = record { running = all.running; below = all.below; tasks = all.tasks }

    after_settled : (result : Result Datum Trap) → computes line.inst.op ≡ true
        → value_of_line setting.layouts state.running.registers line.inst.op line.inst.ty line.inst.operands ≡ result → After (settled state line rest result)
    after_settled (Ok result) kind value_is = running_then (behind state.running line rest result) (computed line rest result is kind value_is)
    after_settled (Err trap) kind value_is = tt

    after_loading : (result : Result Place Trap) → line.inst.op ≡ ops.Load → After (loading state line rest result)
    after_loading (Ok place) kind = running_then (behind state.running line rest (loaded state.objects place)) (accessed line rest (loaded state.objects place) is (ap accesses_cell kind))
    after_loading (Err trap) kind = tt

    after_storing : (datum : Datum) (result : Result Place Trap) → line.inst.op ≡ ops.Store → After (storing state line rest datum result)
    after_storing datum (Ok place) kind =
        let on = running_then (behind state.running line rest nothing) (accessed line rest nothing is (ap accesses_cell kind)) in
        record { running = on.running; below = on.below; tasks = on.tasks }
    after_storing datum (Err trap) kind = tt

    after_jump : (to : ℕ) → LeadsTo line state.running.registers line.inst.op to → After (stepped setting state (jumped_to setting to))
    after_jump to leads =
        let on = running_then (arrived state.running to (setting.lines state.running.func to)) (jumped line rest to is leads) in
        after_stepped state (jumped_to setting to) (record { running = on.running; below = on.below; tasks = on.tasks })

    after_skipped : (op : Op) → line.inst.op ≡ op → is_phi op || is_member op ≡ true → After (goes_on (record state { running = record state.running { rest = rest } }))
    after_skipped op kind passes = running_then (record state.running { rest = rest }) (skipped line rest is (ap (λ o. is_phi o || is_member o) kind ∙ passes))

    waiting : (op : Op) → line.inst.op ≡ op → waits_at op ≡ true → Waits state.running
    waiting op kind waits = record { call = line; rest = rest; is = is; waiting = ap waits_at kind ∙ waits }

    answers_so : (op : Op) → line.inst.op ≡ op → is_calling op ≡ true → (answer : Datum) → All (record state { running = answered_by state.running line rest answer op })
    answers_so op kind passes answer =
        subst (λ (o : Op). All (record state { running = answered_by state.running line rest answer o })) kind
        (running_then (answered_by state.running line rest answer line.inst.op) (answered line rest answer is (ap is_calling kind ∙ passes)))

    after_acts : (op : Op) → line.inst.op ≡ op → After (acts setting state line rest op)
    after_acts ops.Load kind = after_loading (accesses setting state line 0) kind
    after_acts ops.Store kind = after_storing (operand state.running.registers line.inst.operands 0) (accesses setting state line 1) kind
    after_acts (ops.Call callee types) kind =
        after_called state all waits (passed state line rest) (answers_so (ops.Call callee types) kind refl) callee line.inst.operands (waiting (ops.Call callee types) kind)
    after_acts (ops.Statepoint id callee types) kind =
        after_called state all waits (grouped state (drop (length types) line.inst.operands) rest) (answers_so (ops.Statepoint id callee types) kind refl) callee (take (length types) line.inst.operands)
        (waiting (ops.Statepoint id callee types) kind)
    after_acts ops.Phi kind = after_skipped ops.Phi kind refl
    after_acts ops.GcResult kind = after_skipped ops.GcResult kind refl
    after_acts ops.GcRelocate kind = after_skipped ops.GcRelocate kind refl
    after_acts ops.Br kind = after_jump (label_at line.inst.labels 0) (subst (λ (o : Op). LeadsTo line state.running.registers o (label_at line.inst.labels 0)) (sym kind) by_br)
    after_acts ops.CondBr kind =
        let to = label_at line.inst.labels (branch_taken (operand state.running.registers line.inst.operands 0)) in
        after_jump to (subst (λ (o : Op). LeadsTo line state.running.registers o to) (sym kind) by_condition)
    after_acts ops.Switch kind =
        let to = label_at line.inst.labels (case_taken (operand state.running.registers line.inst.operands 0) (drop 1 line.inst.operands)) in
        after_jump to (subst (λ (o : Op). LeadsTo line state.running.registers o to) (sym kind) by_switch)
    after_acts ops.Ret kind =
        after_stepped state (returned (width_of line.inst.ty) (operand state.running.registers line.inst.operands 0) state.below)
        (after_returned (width_of line.inst.ty) (operand state.running.registers line.inst.operands 0) state.below (record state { steps = state.steps + 1 }) all.below waits.below
        (record { below = waits.below; tasks = waits.tasks }) with_step)
    after_acts ops.Unreachable kind = after_stepped state (ends (ended.Trap traps.Unreachable)) tt
    after_acts op kind =
        after_settled (value_of_line setting.layouts state.running.registers op line.inst.ty line.inst.operands) (ap computes kind)
        (ap (λ (o : Op). value_of_line setting.layouts state.running.registers o line.inst.ty line.inst.operands) kind)

  after_at : (state : State) (lines : List Line) → state.running.rest ≡ lines → All state → AllWait state → After (steps_at setting state lines)
  after_at state [] is all waits = tt
  after_at state (line ∷ rest) is all waits = after_acts state all waits line rest is line.inst.op refl

  after_step : (state : State) → All state → AllWait state → After (step setting state)
  unfolding step
  after_step state all waits = after_at state state.running.rest refl all waits

  after_effect : (lines : List (List ℕ)) (effect : Effect State) (now : Progress State) → After effect → ◌≡◌ {A = Next End (Progress State)} (after lines effect) (Go now) → All now.state
  after_effect lines (goes_on state) now all is = subst (λ (p : Progress State). All p.state) (gone (record { state = state; lines = lines }) now is) all
  after_effect lines (prints word state) now all is =
      subst (λ (p : Progress State). All p.state) (gone (record { state = state; lines = printed_line word ∷ lines }) now is) all
  after_effect lines (ends end state) now all is = absurd (not_over end (record { state = state; lines = lines }) now is)

  -- a state that the run comes to, each of whose frames has it
  abbrev Kept : List ℤ → Progress State → Type 0
  Kept input now = All now.state × Reaches {E = End} (proceeds setting) (opening setting input) now

  keeps : (input : List ℤ) (one other : Progress State) → proceeds setting one ≡ Go other → Kept input one → Kept input other
  unfolding proceeds
  keeps input one other is so = (
    after_effect one.lines (step setting one.state) other (after_step one.state so.0 (all_wait setting input one so.1)) is,
    reaches_more (proceeds setting) (opening setting input) one other so.1 is,
  )

  -- in each state that a run comes to each frame has it
  pub all_frames : (input : List ℤ) (now : Progress State) → Reaches {E = End} (proceeds setting) (opening setting input) now → InEachFrame P now.state
  all_frames input now reached =
      let kept_there = reaches_keep (proceeds setting) (Kept input) (opening setting input) now
      (record { running = kept.new setting.main []; below = tt; tasks = (tt, tt) }, record { after = 0; by = refl })
      (keeps input) reached in
      kept_there.0
