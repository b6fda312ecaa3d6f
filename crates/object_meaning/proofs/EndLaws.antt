-- Each run of each setting comes to an end, whatever its `go` lines are: the steps that count are bounded, so are the
-- tasks that are started, and any other step leaves fewer lines to the frames in which the tasks stand.
use Rattle.std.proofs.Common.{◌≡◌, ℕ, zero, suc, ◌+◌, ◌-◌, ◌<◌, ◌≤◌, Bool, true, false, ◌==◌, List, [], ◌∷◌, ◌++◌, length, map, take, drop, Option, Some, None, Result, Ok, Err, refl, sym, ap, subst, ◌∙◌, arith}
use Rattle.std.specs.Prelude.{ℤ, pos, nat_lt, int_lt, if◌then◌else◌, slice_get, slice_set, unsigned_abs}
use Rattle.std.specs.Int.{w64, cast_unsigned}
use Rattle.std.specs.List.{sum_by}
use Rattle.std.specs.Option.{option_map_or}
use Rattle.std.proofs.lemmas.List.{length-append, length-drop, length-set}
use Rattle.sp_ids.specs.Numbers.{signed}
use Rattle.sp_ids.specs.declared.ends.End.{End}
use Rattle.sp_ids.specs.declared.ends.End.TheVariants as ended
use Rattle.sp_ids.specs.declared.ends.Trap.{Trap}
use Rattle.sp_ids.specs.declared.ends.Trap.TheVariants as traps
use Rattle.ir_ast.specs.declared.ops.Op.{Op}
use Rattle.ir_ast.specs.declared.ops.Op.TheVariants as ops
use Rattle.ir_ast.specs.declared.ops.Operand.{Operand}
use Rattle.ir_ast.specs.declared.ops.Callee.{Callee}
use Rattle.ir_ast.specs.declared.ops.Callee.TheVariants as callees
use Rattle.ir_ast.specs.Objects.{Datum, number, pointer, Object, footprint}
use Rattle.object_meaning.specs.Accesses.{Place, accessed, cell_named}
use Rattle.object_meaning.specs.Calls.{allocated, allocating, called, checked, entering, function_in, made, stepped, taking}
use Rattle.object_meaning.specs.Comparisons.{bit, same_pointer}
use Rattle.object_meaning.specs.Computing.{value_of_line}
use Rattle.object_meaning.specs.Effects.{Effect, goes_on, prints, ends, Progress, after, printed_line}
pub use Rattle.object_meaning.specs.Finals.{IsFinal}
use Rattle.object_meaning.specs.Frames.{answered_at, answered_by, entered, group_length, grouped, passed}
use Rattle.object_meaning.specs.Jumps.{branch_taken, case_taken, jumped, label_at}
use Rattle.object_meaning.specs.Lines.{Line}
use Rattle.object_meaning.specs.Numbers.{width_of}
use Rattle.object_meaning.specs.Outcomes.{proceeds}
use Rattle.object_meaning.specs.Registers.{nothing, number_in, operand, pointer_in, value}
use Rattle.object_meaning.specs.Runs.{Next, Go, goes, Ends}
use Rattle.object_meaning.specs.States.{Frame, State, Setting}
use Rattle.object_meaning.specs.Steps.{accesses, acts, loading, returned, settled, step, steps_at, storing}
use Rattle.object_meaning.specs.Tasks.{handed_over, polled, started, switched, switched_to, task_ended, with_event}
use Rattle.object_meaning.proofs.StepLaws.{step_at_end}
use Rattle.std.proofs.lemmas.Bool.{ltb-true}

pub record Halted (setting : Setting) (start : Progress State) : Type 0 where
  pub end : End
  pub last : Progress State
  pub final : IsFinal end
  pub run : Ends (proceeds setting) start end last

-- ---- the lines that are left

-- to a task that waits, in the frame that goes on when it is switched to
abbrev top_lines : List Frame → ℕ
top_lines [] = 0
top_lines (frame ∷ below) = length frame.rest

abbrev waiting_lines : List (List Frame) → ℕ
waiting_lines [] = 0
waiting_lines (task ∷ tasks) = top_lines task + waiting_lines tasks

-- to all tasks
abbrev lines_left : State → ℕ
lines_left state = length state.running.rest + waiting_lines state.tasks

pub set_within : (tasks : List (List Frame)) (task : ℕ) (now : List Frame) → waiting_lines (slice_set tasks task now) ≤ top_lines now + waiting_lines tasks
set_within [] task now = omega arith
set_within (first ∷ tasks) zero now = omega arith
set_within (first ∷ tasks) (suc task) now = let rest = set_within tasks task now in omega arith

pub taken_within : (tasks : List (List Frame)) (to : ℕ) (found : List Frame) → slice_get tasks to ≡ Some found
    → top_lines found + waiting_lines (slice_set tasks to []) ≤ waiting_lines tasks
taken_within [] to found is = cc
taken_within (first ∷ tasks) zero found is = let same : first ≡ found = cc in let lines = ap top_lines same in omega arith
taken_within (first ∷ tasks) (suc to) found is = let rest = taken_within tasks to found is in omega arith

-- the running task waits, and another one runs
pub changed_within : (tasks : List (List Frame)) (task to : ℕ) (now found : List Frame) → slice_get tasks to ≡ Some found
    → top_lines found + waiting_lines (slice_set (slice_set tasks task now) to []) ≤ top_lines now + waiting_lines tasks
changed_within [] task to now found is = cc
changed_within (first ∷ tasks) zero zero now found is = let same : first ≡ found = cc in let lines = ap top_lines same in omega arith
changed_within (first ∷ tasks) zero (suc to) now found is = let rest = taken_within tasks to found is in omega arith
changed_within (first ∷ tasks) (suc task) zero now found is =
    let same : first ≡ found = cc in let lines = ap top_lines same in let rest = set_within tasks task now in omega arith
changed_within (first ∷ tasks) (suc task) (suc to) now found is = let rest = changed_within tasks task to now found is in omega arith

-- ---- what a step leads to

-- a step that goes on counts, or starts a task, or leaves fewer lines, or leads to a frame without lines
data LeadsOn (bound : ℕ) (state next : State) : Type 0 where
  counted : state.steps < bound → next.steps ≡ state.steps + 1 → LeadsOn bound state next
  tasked : next.steps ≡ state.steps → length state.tasks < 64 → length next.tasks ≡ length state.tasks + 1 → LeadsOn bound state next
  fewer : next.steps ≡ state.steps → length next.tasks ≡ length state.tasks → lines_left next < lines_left state → LeadsOn bound state next
  stuck : next.running.rest ≡ [] → LeadsOn bound state next

abbrev Fares : ℕ → State → Effect State → Type 0
Fares bound state (goes_on next) = LeadsOn bound state next
Fares bound state (prints word next) = LeadsOn bound state next
Fares bound state (ends end last) = IsFinal end

-- what follows a step that was counted
abbrev Counts : ℕ → Effect State → Type 0
Counts steps (goes_on next) = next.steps ≡ steps
Counts steps (prints word next) = next.steps ≡ steps
Counts steps (ends end last) = IsFinal end

fares_counted : (bound : ℕ) (state : State) (effect : Effect State) → state.steps < bound → Counts (state.steps + 1) effect → Fares bound state effect
fares_counted bound state (goes_on next) under is = counted under is
fares_counted bound state (prints word next) under is = counted under is
fares_counted bound state (ends end last) under final = final

-- a state behind the line at which another stands
record IsBehind (state next : State) : Type 0 where
  steps : next.steps ≡ state.steps
  tasks : next.tasks ≡ state.tasks
  rest : length next.running.rest < length state.running.rest

leads_behind : (bound : ℕ) (state next : State) → IsBehind state next → LeadsOn bound state next
leads_behind bound state next behind =
    let same = ap waiting_lines behind.tasks in let shorter = behind.rest in fewer behind.steps (ap length behind.tasks) (omega arith)

behind_passed : (state : State) (line : Line) (rest : List Line) (result : Datum) → length rest < length state.running.rest → IsBehind state (passed state line rest result)
behind_passed state line rest result shorter = record { steps = refl; tasks = refl; rest = shorter }

pub dropped_less : (count : ℕ) (rest : List Line) (all : ℕ) → length rest < all → length (drop count rest) < all
dropped_less count rest all shorter = let e = length-drop count rest in omega arith

behind_grouped : (state : State) (entries : List Operand) (rest : List Line) (answer : Datum) → length rest < length state.running.rest
    → IsBehind state (grouped state entries rest answer)
behind_grouped state entries rest answer shorter =
    record { steps = refl; tasks = refl; rest = dropped_less (group_length rest) rest (length state.running.rest) shorter }

module _ (setting : Setting) (state : State) where
  fares_stepped : (next : State → Effect State) → Counts (state.steps + 1) (next (record state { steps = state.steps + 1 }))
      → Fares setting.bound state (stepped setting state next)
  fares_stepped next counts = by (nat_lt state.steps setting.bound) refl
    where
      by : (b : Bool) → nat_lt state.steps setting.bound ≡ b
          → Fares setting.bound state (if b then next (record state { steps = state.steps + 1 }) else ends ended.OutOfSteps state)
      by true is = fares_counted setting.bound state (next (record state { steps = state.steps + 1 })) (ltb-true state.steps setting.bound is) counts
      by false is = tt

  counts_entering : (func : ℕ) (arguments : List Datum) → Counts state.steps (entering setting func arguments state)
  counts_entering func arguments = by (nat_lt (length state.below + 1) 4096)
    where
      by : (b : Bool) → Counts state.steps (if b then goes_on (record state { running = entered setting func arguments; below = state.running ∷ state.below }) else ends (ended.Trap traps.Depth) state)
      by true = refl
      by false = tt

  counts_handed_over : (frames : Option (List Frame)) → Counts state.steps (handed_over state frames)
  counts_handed_over (Some (frame ∷ below)) = refl
  counts_handed_over (Some []) = tt
  counts_handed_over None = tt

  counts_task_ended : (width : ℕ) (answer : Datum) → Counts state.steps (task_ended state width answer)
  counts_task_ended width answer = by (state.task == 0)
    where
      by : (b : Bool) → Counts state.steps (if b then ends (ended.Return (signed width (number_in answer))) state else handed_over state (slice_get state.tasks 0))
      by true = tt
      by false = counts_handed_over (slice_get state.tasks 0)

  counts_returned : (width : ℕ) (answer : Datum) (below : List Frame) → Counts state.steps (returned width answer below state)
  counts_returned width answer [] = counts_task_ended width answer
  counts_returned width answer (caller ∷ below) = refl

  fares_started : (func : ℕ) (argument : Datum) → Fares setting.bound state (started setting state func argument)
  fares_started func argument = by (nat_lt (length state.tasks) 64) refl
    where
      by : (b : Bool) → nat_lt (length state.tasks) 64 ≡ b → Fares setting.bound state (if b
          then goes_on (record state {
            running = entered setting func (argument ∷ []);
            below = [];
            task = length state.tasks;
            tasks = slice_set state.tasks state.task (state.running ∷ state.below) ++ [] ∷ [];
          })
          else ends (ended.Trap traps.Tasks) state)
      by true is =
          let set = length-set state.tasks state.task (state.running ∷ state.below) in
          let more = length-append (slice_set state.tasks state.task (state.running ∷ state.below)) ([] ∷ []) in
          tasked refl (ltb-true (length state.tasks) 64 is) (more ∙ ap (λ n. n + 1) set)
      by false is = tt

-- ---- a poll

-- a task was switched to, or not
record IsSwitched (state next : State) : Type 0 where
  steps : next.steps ≡ state.steps
  tasks : length next.tasks ≡ length state.tasks
  left : lines_left next ≤ lines_left state

switches_to : (state : State) (to : ℕ) (found : Option (List Frame)) → slice_get state.tasks to ≡ found → IsSwitched state (switched_to state to found)
switches_to state to (Some (frame ∷ below)) is = record {
  steps = refl;
  tasks = length-set (slice_set state.tasks state.task (state.running ∷ state.below)) to [] ∙ length-set state.tasks state.task (state.running ∷ state.below);
  left = changed_within state.tasks state.task to (state.running ∷ state.below) (frame ∷ below) is;
}
switches_to state to (Some []) is = record { steps = refl; tasks = refl; left = omega arith }
switches_to state to None is = record { steps = refl; tasks = refl; left = omega arith }

switches : (state : State) (to : Option ℕ) → IsSwitched state (option_map_or (switched state) to state)
switches state (Some to) = switches_to state to (slice_get state.tasks to) refl
switches state None = record { steps = refl; tasks = refl; left = omega arith }

answered_less : (state : State) (call : Line) (rest : List Line) (answer : Datum) (op : Op)
    → length (answered_by state.running call rest answer op).rest < length (call ∷ rest)
answered_less state call rest answer (ops.Statepoint id callee types) = dropped_less (group_length rest) rest (length (call ∷ rest)) (omega arith)
answered_less state call rest answer _ = omega arith

goes_behind : (bound : ℕ) (state next : State) (lines : List Line) (answer : Datum) → IsSwitched state next → next.running.rest ≡ lines
    → LeadsOn bound state (record next { running = answered_at next.running lines answer })
goes_behind bound state next [] answer switch is = stuck is
goes_behind bound state next (call ∷ rest) answer switch is =
    let one = answered_less next call rest answer call.inst.op in
    let all = ap length is in
    let within = switch.left in
    fewer switch.steps switch.tasks (omega arith)

fares_polled : (setting : Setting) (state : State) → LeadsOn setting.bound state (polled setting state)
fares_polled setting state =
    let now = with_event state in
    let next = option_map_or (switched now) (setting.go now.events) now in
    let switch = switches now (setting.go now.events) in
    goes_behind setting.bound state next next.running.rest nothing (record { steps = switch.steps; tasks = switch.tasks; left = switch.left }) refl

-- ---- each line

fares_settled : (bound : ℕ) (state : State) (line : Line) (rest : List Line) (result : Result Datum Trap) → length rest < length state.running.rest
    → Fares bound state (settled state line rest result)
fares_settled bound state line rest (Ok result) shorter = leads_behind bound state (passed state line rest result) (behind_passed state line rest result shorter)
fares_settled bound state line rest (Err trap) shorter = tt

fares_loading : (bound : ℕ) (state : State) (line : Line) (rest : List Line) (result : Result Place Trap) → length rest < length state.running.rest
    → Fares bound state (loading state line rest result)
fares_loading bound state line rest (Ok place) shorter = fewer refl refl (omega arith)
fares_loading bound state line rest (Err trap) shorter = tt

fares_storing : (bound : ℕ) (state : State) (line : Line) (rest : List Line) (datum : Datum) (result : Result Place Trap) → length rest < length state.running.rest
    → Fares bound state (storing state line rest datum result)
fares_storing bound state line rest datum (Ok place) shorter = fewer refl refl (omega arith)
fares_storing bound state line rest datum (Err trap) shorter = tt

module _ (setting : Setting) (state : State) (done : Datum → State) (behind : (answer : Datum) → IsBehind state (done answer)) where
  fares_done : (answer : Datum) → LeadsOn setting.bound state (done answer)
  fares_done answer = leads_behind setting.bound state (done answer) (behind answer)

  -- what changes besides is no matter
  fares_like : (answer : Datum) (next : State) → next.steps ≡ (done answer).steps → next.tasks ≡ (done answer).tasks → next.running ≡ (done answer).running
      → LeadsOn setting.bound state next
  fares_like answer next steps tasks running =
      let there = behind answer in
      leads_behind setting.bound state next
      (record { steps = steps ∙ there.steps; tasks = tasks ∙ there.tasks; rest = subst (λ (frame : Frame). length frame.rest < length state.running.rest) (sym running) there.rest })

  fares_allocated : (object : Object) → Fares setting.bound state (allocated setting state done object)
  fares_allocated object = by (nat_lt 67108864 (sum_by (footprint setting.layouts) (state.objects ++ object ∷ [])))
    where
      by : (b : Bool) → Fares setting.bound state (if b then ends (ended.Trap traps.Full) (with_event state) else goes_on (record (with_event (done (pointer (record { object = length state.objects + 1; offset = 0 })))) {
        objects = state.objects ++ object ∷ [];
      }))
      by true = tt
      by false =
          fares_like (pointer (record { object = length state.objects + 1; offset = 0 }))
          (record (with_event (done (pointer (record { object = length state.objects + 1; offset = 0 })))) { objects = state.objects ++ object ∷ [] })
          refl refl refl

  fares_allocating : (layout : ℕ) (count : ℤ) → Fares setting.bound state (allocating setting state done layout count)
  fares_allocating layout count = by (int_lt count (pos 0))
    where
      by : (b : Bool) → Fares setting.bound state (if b then ends (ended.Trap traps.Count) (with_event state) else allocated setting state done (made setting.layouts layout (unsigned_abs count)))
      by true = tt
      by false = fares_allocated (made setting.layouts layout (unsigned_abs count))

  fares_taking : (input : List ℤ) → Fares setting.bound state (taking state done input)
  fares_taking [] = tt
  fares_taking (first ∷ rest) =
      fares_like (number (cast_unsigned w64 first)) (record (done (number (cast_unsigned w64 first))) { input = rest }) refl refl refl

  fares_checked : (result : Result Place Trap) → Fares setting.bound state (checked state done result)
  fares_checked (Ok place) = fares_done nothing
  fares_checked (Err trap) = tt

  fares_called : (callee : Callee) (operands : List Operand) → Fares setting.bound state (called setting state done callee operands)
  fares_called (callees.Fun func) operands =
      fares_stepped setting state (entering setting func.0 (map (value state.running.registers) operands))
      (counts_entering setting (record state { steps = state.steps + 1 }) func.0 (map (value state.running.registers) operands))
  fares_called (callees.New layout) operands =
      fares_allocating layout (signed 64 (number_in (operand state.running.registers operands 0)))
  fares_called callees.Print operands = fares_done nothing
  fares_called callees.Read operands = fares_taking state.input
  fares_called callees.TaskStart operands =
      fares_started setting state (function_in (slice_get operands 0)) (operand state.running.registers operands 1)
  fares_called callees.Poll operands = fares_polled setting state
  fares_called callees.Check operands =
      fares_checked
      (accessed setting.layouts state.objects (cell_named (number_in (operand state.running.registers operands 2))) (pointer_in (operand state.running.registers operands 1)))
  fares_called callees.Same operands =
      fares_done
      (number (bit (same_pointer (pointer_in (operand state.running.registers operands 1)) (pointer_in (operand state.running.registers operands 3)))))

module _ (setting : Setting) (state : State) (line : Line) (rest : List Line) (shorter : length rest < length state.running.rest) where
  fares_acts : (op : Op) → Fares setting.bound state (acts setting state line rest op)
  fares_acts ops.Load = fares_loading setting.bound state line rest (accesses setting state line 0) shorter
  fares_acts ops.Store =
      fares_storing setting.bound state line rest (operand state.running.registers line.inst.operands 0) (accesses setting state line 1) shorter
  fares_acts (ops.Call callee types) =
      fares_called setting state (passed state line rest) (λ answer. behind_passed state line rest answer shorter) callee line.inst.operands
  fares_acts (ops.Statepoint id callee types) =
      fares_called setting state (grouped state (drop (length types) line.inst.operands) rest)
      (λ answer. behind_grouped state (drop (length types) line.inst.operands) rest answer shorter) callee (take (length types) line.inst.operands)
  fares_acts ops.Phi = fewer refl refl (omega arith)
  fares_acts ops.GcResult = fewer refl refl (omega arith)
  fares_acts ops.GcRelocate = fewer refl refl (omega arith)
  fares_acts ops.Br = fares_stepped setting state (jumped setting (label_at line.inst.labels 0)) refl
  fares_acts ops.CondBr =
      fares_stepped setting state
      (jumped setting (label_at line.inst.labels (branch_taken (operand state.running.registers line.inst.operands 0)))) refl
  fares_acts ops.Switch =
      fares_stepped setting state
      (jumped setting (label_at line.inst.labels (case_taken (operand state.running.registers line.inst.operands 0) (drop 1 line.inst.operands)))) refl
  fares_acts ops.Ret =
      fares_stepped setting state (returned (width_of line.inst.ty) (operand state.running.registers line.inst.operands 0) state.below)
      (counts_returned setting (record state { steps = state.steps + 1 }) (width_of line.inst.ty) (operand state.running.registers line.inst.operands 0) state.below)
  fares_acts ops.Unreachable = fares_stepped setting state (ends (ended.Trap traps.Unreachable)) tt
  fares_acts op =
      fares_settled setting.bound state line rest (value_of_line setting.layouts state.running.registers op line.inst.ty line.inst.operands) shorter

fares_at : (setting : Setting) (state : State) (lines : List Line) → state.running.rest ≡ lines → Fares setting.bound state (steps_at setting state lines)
fares_at setting state [] is = tt
fares_at setting state (line ∷ rest) is =
    let all : length state.running.rest ≡ length (line ∷ rest) = ap length is in
    let more : length (line ∷ rest) ≡ suc (length rest) = refl in
    fares_acts setting state line rest (omega arith) line.inst.op

fares : (setting : Setting) (state : State) → Fares setting.bound state (step setting state)
unfolding step
fares setting state = fares_at setting state state.running.rest refl

-- ---- so that each run ends

abbrev Halts : Setting → State → Type 0
Halts setting state = (lines : List (List ℕ)) → Halted setting (record { state = state; lines = lines })

pub ends_before : {E A : Type 0} (step : A → Next E A) (start next : A) (end : E) (last : A) → step start ≡ Go next → Ends step next end last → Ends step start end last
ends_before step start next end last is rest = record { within = suc rest.within; by = ap (goes step rest.within) is ∙ rest.by }

halted_before : (setting : Setting) (start next : Progress State) → proceeds setting start ≡ Go next → Halted setting next → Halted setting start
halted_before setting start next is rest =
    record { end = rest.end; last = rest.last; final = rest.final; run = ends_before (proceeds setting) start next rest.end rest.last is rest.run }

halted_after : (setting : Setting) (state : State) (effect : Effect State) → step setting state ≡ effect
    → ((next : State) → LeadsOn setting.bound state next → Halts setting next) → Fares setting.bound state effect → Halts setting state
unfolding proceeds
halted_after setting state (goes_on next) is rest leads lines =
    halted_before setting (record { state = state; lines = lines }) (record { state = next; lines = lines }) (ap (after lines) is) (rest next leads lines)
halted_after setting state (prints word next) is rest leads lines =
    halted_before setting (record { state = state; lines = lines }) (record { state = next; lines = printed_line word ∷ lines })
    (ap (after lines) is) (rest next leads (printed_line word ∷ lines))
halted_after setting state (ends end last) is rest final lines =
    record { end = end; last = record { state = last; lines = lines }; final = final; run = record { within = suc zero; by = ap (after lines) is } }

halts_stuck : (setting : Setting) (state : State) → state.running.rest ≡ [] → Halts setting state
unfolding proceeds
halts_stuck setting state is lines = record {
  end = ended.Trap traps.Unreachable;
  last = record { state = state; lines = lines };
  final = tt;
  run = record { within = suc zero; by = ap (after lines) (step_at_end setting state is) };
}

-- by the steps that are left, then by the tasks, then by the lines
halts_next : (setting : Setting) (steps tasks lines : ℕ)
    → ((state : State) → setting.bound - state.steps < steps → Halts setting state)
    → ((state : State) → setting.bound - state.steps < suc steps → 64 - length state.tasks < tasks → Halts setting state)
    → ((state : State) → setting.bound - state.steps < suc steps → 64 - length state.tasks < suc tasks → lines_left state < lines → Halts setting state)
    → (state : State) → setting.bound - state.steps < suc steps → 64 - length state.tasks < suc tasks → lines_left state < suc lines
    → (next : State) → LeadsOn setting.bound state next → Halts setting next
halts_next setting steps tasks lines fewer_steps fewer_tasks fewer_lines state one two three next (counted under is) =
    fewer_steps next (omega arith)
halts_next setting steps tasks lines fewer_steps fewer_tasks fewer_lines state one two three next (tasked same under is) =
    fewer_tasks next (omega arith) (omega arith)
halts_next setting steps tasks lines fewer_steps fewer_tasks fewer_lines state one two three next (fewer same also shorter) =
    fewer_lines next (omega arith) (omega arith) (omega arith)
halts_next setting steps tasks lines fewer_steps fewer_tasks fewer_lines state one two three next (stuck is) = halts_stuck setting next is

halts_lines : (setting : Setting) (steps tasks : ℕ)
    → ((state : State) → setting.bound - state.steps < steps → Halts setting state)
    → ((state : State) → setting.bound - state.steps < suc steps → 64 - length state.tasks < tasks → Halts setting state)
    → (lines : ℕ) (state : State) → setting.bound - state.steps < suc steps → 64 - length state.tasks < suc tasks → lines_left state < lines
    → Halts setting state
halts_lines setting steps tasks fewer_steps fewer_tasks zero state one two three = absurd (omega arith)
halts_lines setting steps tasks fewer_steps fewer_tasks (suc lines) state one two three =
    halted_after setting state (step setting state) refl
    (halts_next setting steps tasks lines fewer_steps fewer_tasks (halts_lines setting steps tasks fewer_steps fewer_tasks lines) state one two three)
    (fares setting state)

halts_tasks : (setting : Setting) (steps : ℕ) → ((state : State) → setting.bound - state.steps < steps → Halts setting state)
    → (tasks : ℕ) (state : State) → setting.bound - state.steps < suc steps → 64 - length state.tasks < tasks → Halts setting state
halts_tasks setting steps fewer_steps zero state one two = absurd (omega arith)
halts_tasks setting steps fewer_steps (suc tasks) state one two =
    halts_lines setting steps tasks fewer_steps (halts_tasks setting steps fewer_steps tasks) (suc (lines_left state)) state one two (omega arith)

halts_steps : (setting : Setting) (steps : ℕ) (state : State) → setting.bound - state.steps < steps → Halts setting state
halts_steps setting zero state one = absurd (omega arith)
halts_steps setting (suc steps) state one =
    halts_tasks setting steps (halts_steps setting steps) (suc (64 - length state.tasks)) state one (omega arith)

-- each run ends, from any state
pub run_ends : (setting : Setting) (start : Progress State) → Halted setting start
run_ends setting start = halts_steps setting (suc (setting.bound - start.state.steps)) start.state (omega arith) start.lines
