-- What a step leads to: a step that goes on counts, or starts a task, or leaves fewer lines, or leads to a frame without
-- lines, in which the next step ends the run.
use Rattle.std.proofs.Common.{◌≡◌, ℕ, ◌+◌, ◌<◌, ◌≤◌, Bool, true, false, List, [], ◌∷◌, ◌++◌, length, Option, Some, None, Result, Ok, Err, refl, ap, subst, sym, ◌∙◌, arith}
use Rattle.std.specs.Prelude.{ℤ, nat_lt, if◌then◌else◌, slice_get, slice_set}
use Rattle.std.specs.Option.{option_map_or}
use Rattle.std.proofs.lemmas.Bool.Decides.{nat_tests}
use Rattle.std.proofs.lemmas.List.{length-append, length-set}
use Rattle.sp_ids.specs.declared.ends.End.TheVariants as ended
use Rattle.sp_ids.specs.declared.ends.Trap.TheVariants as traps
use Rattle.ir_ast.specs.declared.ops.Op.{Op}
use Rattle.ir_ast.specs.declared.ops.Op.TheVariants as ops
use Rattle.ir_ast.specs.Objects.{Datum}
use Rattle.object_meaning.specs.Lines.{Line}
use Rattle.object_meaning.specs.Effects.{Effect, goes_on, prints, ends}
use Rattle.object_meaning.specs.Frames.{entered, group_length}
use Rattle.object_meaning.specs.Calls.{entering, stepped}
use Rattle.object_meaning.specs.States.{Frame, State, Setting}
use Rattle.object_meaning.specs.Tasks.{started, with_event}
use Rattle.machine_meaning.specs.Machines.{Machine, Machinery, gone_behind, gone_from, lifted, then_on}
use Rattle.machine_meaning.specs.MachineTasks.{switched_machine}
use Rattle.machine_meaning.specs.Moving.{after_walk, eventful, moved_by, moves_due, walked_all}
use Rattle.moving_heap.specs.declared.stands.Moved.{Moved}
use Rattle.runs_unseen.proofs.machine_ends.LineCounts.{lines_left}
use Rattle.object_meaning.proofs.EndLaws.{changed_within, dropped_less}

pub data LeadsOn (bound : ℕ) (state next : State) : Type 0 where
  counted : state.steps < bound → next.steps ≡ state.steps + 1 → LeadsOn bound state next
  tasked : next.steps ≡ state.steps → length state.tasks < 64 → length next.tasks ≡ length state.tasks + 1 → LeadsOn bound state next
  fewer : next.steps ≡ state.steps → length next.tasks ≡ length state.tasks → lines_left next < lines_left state → LeadsOn bound state next
  stuck : next.running.rest ≡ [] → LeadsOn bound state next

abbrev pub Leads : ℕ → State → Effect State → Type 0
Leads bound state (goes_on next) = LeadsOn bound state next
Leads bound state (prints word next) = LeadsOn bound state next
Leads bound state (ends end last) = Unit {0}

-- the same of the machine, whose states hold those
abbrev pub Fares : ℕ → State → Effect Machine → Type 0
Fares bound state (goes_on next) = LeadsOn bound state next.state
Fares bound state (prints word next) = LeadsOn bound state next.state
Fares bound state (ends end last) = Unit {0}

pub fares_lifted : (bound : ℕ) (state : State) (machine : Machine) (effect : Effect State) → Leads bound state effect → Fares bound state (lifted machine effect)
fares_lifted bound state machine (goes_on next) leads = leads
fares_lifted bound state machine (prints word next) leads = leads
fares_lifted bound state machine (ends end last) leads = tt

pub fares_then : (bound : ℕ) (state : State) (next : Machine → Machine) (effect : Effect Machine) → ((machine : Machine) → (next machine).state ≡ machine.state)
    → Fares bound state effect → Fares bound state (then_on next effect)
fares_then bound state next (goes_on machine) keeps leads = subst (LeadsOn bound state) (sym (keeps machine)) leads
fares_then bound state next (prints word machine) keeps leads = leads
fares_then bound state next (ends end machine) keeps leads = tt

pub under_bound : (steps bound : ℕ) → nat_lt steps bound ≡ true → steps < bound
under_bound steps bound is = grind (arith, nat_tests)

-- ---- what the target meaning's steps share with the machine's

-- what follows a step that was counted
abbrev pub Counts : ℕ → Effect State → Type 0
Counts steps (goes_on next) = next.steps ≡ steps
Counts steps (prints word next) = next.steps ≡ steps
Counts steps (ends end last) = Unit {0}

leads_counted : (bound : ℕ) (state : State) (effect : Effect State) → state.steps < bound → Counts (state.steps + 1) effect → Leads bound state effect
leads_counted bound state (goes_on next) under is = counted under is
leads_counted bound state (prints word next) under is = counted under is
leads_counted bound state (ends end last) under final = tt

module _ (setting : Setting) (state : State) where
  pub leads_stepped : (next : State → Effect State) → Counts (state.steps + 1) (next (record state { steps = state.steps + 1 }))
      → Leads setting.bound state (stepped setting state next)
  leads_stepped next counts = by (nat_lt state.steps setting.bound) refl
    where
      by : (b : Bool) → nat_lt state.steps setting.bound ≡ b
          → Leads setting.bound state (if b then next (record state { steps = state.steps + 1 }) else ends ended.OutOfSteps state)
      by true is = leads_counted setting.bound state (next (record state { steps = state.steps + 1 })) (under_bound state.steps setting.bound is) counts
      by false is = tt

  pub counts_entering : (func : ℕ) (arguments : List Datum) → Counts state.steps (entering setting func arguments state)
  counts_entering func arguments = by (nat_lt (length state.below + 1) 4096)
    where
      by : (b : Bool) → Counts state.steps (if b then goes_on (record state { running = entered setting func arguments; below = state.running ∷ state.below }) else ends (ended.Trap traps.Depth) state)
      by true = refl
      by false = tt

  pub leads_started : (func : ℕ) (argument : Datum) → Leads setting.bound state (started setting state func argument)
  leads_started func argument = by (nat_lt (length state.tasks) 64) refl
    where
      by : (b : Bool) → nat_lt (length state.tasks) 64 ≡ b → Leads setting.bound state (if b
          then goes_on (record state {
            running = entered setting func (argument ∷ []);
            below = [];
            task = length state.tasks;
            tasks = slice_set state.tasks state.task (state.running ∷ state.below) ++ [] ∷ [];
          })
          else ends (ended.Trap traps.Tasks) state)
      by true is =
          let set = length-set state.tasks state.task (state.running ∷ state.below) in
          let more = length-append (slice_set state.tasks state.task (state.running ∷ state.below)) ([] ∷ []) in
          tasked refl (under_bound (length state.tasks) 64 is) (more ∙ ap (λ n. n + 1) set)
      by false is = tt

-- what a run's input is doesn't matter
pub leads_input : (bound : ℕ) (state next : State) (input : List ℤ) → LeadsOn bound state next → LeadsOn bound state (record next { input = input })
leads_input bound state next input (counted under is) = counted under is
leads_input bound state next input (tasked same under is) = tasked same under is
leads_input bound state next input (fewer same also shorter) = fewer same also shorter
leads_input bound state next input (stuck is) = stuck is

-- ---- a frame that goes on behind its call

-- a task was switched to, or not
pub record IsSwitched (state next : State) : Type 0 where
  pub steps : next.steps ≡ state.steps
  pub tasks : length next.tasks ≡ length state.tasks
  pub left : lines_left next ≤ lines_left state

pub switched_same : (state : State) → IsSwitched state state
switched_same state = record { steps = refl; tasks = refl; left = omega arith }

pub switched_then : (state next last : State) → IsSwitched state next → IsSwitched next last → IsSwitched state last
switched_then state next last one two =
    let first = one.left in let second = two.left in
    record { steps = two.steps ∙ one.steps; tasks = two.tasks ∙ one.tasks; left = omega arith }

switches_to : (machine : Machine) (to : ℕ) (found : Option (List Frame)) → slice_get machine.state.tasks to ≡ found → IsSwitched machine.state (switched_machine machine to found).state
switches_to machine to (Some (frame ∷ below)) is = record {
  steps = refl;
  tasks = length-set (slice_set machine.state.tasks machine.state.task (machine.state.running ∷ machine.state.below)) to [] ∙ length-set machine.state.tasks machine.state.task (machine.state.running ∷ machine.state.below);
  left = changed_within machine.state.tasks machine.state.task to (machine.state.running ∷ machine.state.below) (frame ∷ below) is;
}
switches_to machine to (Some []) is = switched_same machine.state
switches_to machine to None is = switched_same machine.state

pub switches : (machine : Machine) (to : Option ℕ)
    → IsSwitched machine.state (option_map_or (λ to_task. switched_machine machine to_task (slice_get machine.state.tasks to_task)) to machine).state
switches machine (Some to) = switches_to machine to (slice_get machine.state.tasks to) refl
switches machine None = switched_same machine.state

gone_less : (stack : List ℕ) (frame : Frame) (call : Line) (rest : List Line) (answer : Datum) (op : Op)
    → length (gone_behind stack frame call rest answer op).rest < length (call ∷ rest)
gone_less stack frame call rest answer (ops.Statepoint id callee types) = dropped_less (group_length rest) rest (length (call ∷ rest)) (omega arith)
gone_less stack frame call rest answer _ = omega arith

gone_at : (bound : ℕ) (state next : State) (stack : List ℕ) (lines : List Line) (answer : Datum) → IsSwitched state next → next.running.rest ≡ lines
    → LeadsOn bound state (record next { running = gone_from stack next.running lines answer })
gone_at bound state next stack [] answer switch is = stuck is
gone_at bound state next stack (call ∷ rest) answer switch is =
    let one = gone_less stack next.running call rest answer call.inst.op in
    let all = ap length is in
    let within = switch.left in
    fewer switch.steps switch.tasks (omega arith)

pub gone_leads : (bound : ℕ) (state next : State) (stack : List ℕ) (answer : Datum) → IsSwitched state next
    → LeadsOn bound state (record next { running = gone_from stack next.running next.running.rest answer })
gone_leads bound state next stack answer switch = gone_at bound state next stack next.running.rest answer switch refl

-- ---- an event

module _ (bound : ℕ) (state : State) (machinery : Machinery) (next : Machine → Effect Machine)
    (fares : (now : Machine) → IsSwitched state now.state → Fares bound state (next now)) where
  fares_walk : (moves : List Moved) (machine : Machine) (stacks : Result (List (List ℕ)) ℕ) → IsSwitched state machine.state → Fares bound state (after_walk moves machine stacks next)
  fares_walk moves machine (Ok stacks) switch = fares _ switch
  fares_walk moves machine (Err lost) switch = tt

  fares_moved : (moves : List Moved) (machine : Machine) → IsSwitched state machine.state → Fares bound state (moved_by machinery moves machine next)
  fares_moved [] machine switch = fares machine switch
  fares_moved (move ∷ moves) machine switch = fares_walk (move ∷ moves) machine (walked_all machinery (move ∷ moves) machine) switch

  pub fares_eventful : (machine : Machine) → IsSwitched state (with_event machine.state) → Fares bound state (eventful machinery machine next)
  fares_eventful machine switch =
      let now : Machine = record machine { state = with_event machine.state } in
      fares_moved (moves_due machinery now.heap now.state.events) now switch
