-- What a step of the machine does to places: nothing but at an event, and there what the plan says.
use Rattle.std.proofs.Common.{◌≡◌, ℕ, Bool, true, false, List, [], ◌∷◌, map, refl, sym, ap, ◌∙◌, cond, Option, Some, None, Result, Ok, Err, ℤ}
use Rattle.std.specs.Prelude.{◌+◌, unsigned_abs, slice_get, nat_lt, length, drop}
use Rattle.sp_ids.specs.declared.ends.End.{End}
use Rattle.sp_ids.specs.declared.ends.End.TheVariants.{LostFrame, OutOfSteps, Trap as Traps}
use Rattle.sp_ids.specs.declared.ends.Trap.{Trap}
use Rattle.sp_ids.specs.declared.ends.Trap.TheVariants.{Depth, Tasks, Unreachable as Executed}
use Rattle.sp_ids.specs.Numbers.{signed}
use Rattle.ir_ast.specs.declared.cells.Cell.{Cell}
use Rattle.ir_ast.specs.declared.ops.Callee.{Callee}
use Rattle.ir_ast.specs.declared.ops.Callee.TheVariants.{Fun, New, Print, Read, TaskStart, Poll, Check, Same}
use Rattle.ir_ast.specs.declared.ops.Op.{Op}
use Rattle.ir_ast.specs.declared.ops.Op.TheVariants.{Gep, Load, Store, Call, Statepoint, Ret, Phi, GcResult, GcRelocate, Br, CondBr, Switch, Unreachable}
use Rattle.ir_ast.specs.declared.ops.Operand.{Operand}
use Rattle.ir_ast.specs.Sizes.{fields_in}
use Rattle.ir_ast.specs.Objects.{Datum}
use Rattle.moving_heap.specs.declared.heap.AllocFault.{AllocFault}
use Rattle.moving_heap.specs.declared.heap.AllocFault.TheVariants as faults
use Rattle.moving_heap.specs.declared.heap.Deny.{Deny}
use Rattle.moving_heap.specs.declared.heap.Deny.TheVariants as denies
use Rattle.moving_heap.specs.declared.stands.Moved.{Moved}
use Rattle.moving_heap.specs.declared.stands.Stand.{Stand}
use Rattle.moving_heap.specs.Places.{carried}
use Rattle.moving_heap.specs.Heaps.{alloc_answer, footprint}
use Rattle.object_meaning.specs.Effects.{Effect, goes_on, prints, ends}
use Rattle.object_meaning.specs.Lines.{Line}
use Rattle.object_meaning.specs.States.{Frame, State, Setting}
use Rattle.object_meaning.specs.Computing.{value_of_line}
use Rattle.object_meaning.specs.Calls.{entering, function_in, stepped}
use Rattle.object_meaning.specs.Frames.{entered}
use Rattle.object_meaning.specs.Jumps.{branch_taken, case_taken, jumped, label_at}
use Rattle.object_meaning.specs.Numbers.{width_of}
use Rattle.object_meaning.specs.Registers.{number_in, operand, value}
use Rattle.object_meaning.specs.Steps.{acts, settled}
use Rattle.object_meaning.specs.Tasks.{started, with_event}
use Rattle.object_meaning.specs.Traces.{Event, at_poll, at_new, event_at, event_of, events_at}
use Rattle.machine_meaning.specs.EventPlaces.{MovePlan, Occasion, made_at, makes, moved_at, polls, stands_at_event}
use Rattle.tool_io.specs.Counts.{raised}
use Rattle.machine_meaning.specs.Machines.{Machine, Machinery, lifted, then_on}
use Rattle.machine_meaning.specs.Moving.{after_walk, eventful, moved_by, moves_due, walked_all}
use Rattle.machine_meaning.specs.MachineTasks.{allocated_machine, allocating_machine, handed_machine, polled_machine, switched_machine}
use Rattle.machine_meaning.specs.MachineSteps.{behind_step, calls, checking, denied, loading_word, machine_acts, machine_at, machine_step, returns, storing_word}
use Rattle.machine_meaning.proofs.PlaceLaws.{still}

-- ---- what a step tells

-- objects and count of events stay
pub record Stays (before now : Machine) : Type 0 where
  pub stands : now.heap.stands ≡ before.heap.stands
  pub events : now.state.events ≡ before.state.events

-- one event has happened, and this at it
pub record Happens (plan : MovePlan) (before now : Machine) (occasion : Occasion) : Type 0 where
  pub stands : now.heap.stands ≡ stands_at_event plan (raised before.state.events) before.heap.stands occasion
  pub events : now.state.events ≡ raised before.state.events

-- at these events of a line
abbrev pub GoesOn : MovePlan → Machine → List Event → Machine → Type 0
GoesOn plan before [] now = Stays before now
GoesOn plan before (at_poll ∷ rest) now = Happens plan before now polls × (rest ≡ [])
GoesOn plan before (at_new ∷ rest) now = (size : ℕ) × Happens plan before now (makes size) × (rest ≡ [])

-- a run ends before an event, or where a new object isn't made
abbrev pub EndsAt : MovePlan → Machine → List Event → Machine → Type 0
EndsAt plan before [] last = last.heap.stands ≡ before.heap.stands
EndsAt plan before (at_poll ∷ rest) last = ⊥
EndsAt plan before (at_new ∷ rest) last =
    (last.heap.stands ≡ stands_at_event plan (raised before.state.events) before.heap.stands polls) × (rest ≡ [])

abbrev pub Tells : MovePlan → Machine → List Event → Effect Machine → Type 0
Tells plan before events (goes_on now) = GoesOn plan before events now
Tells plan before events (prints word now) = GoesOn plan before events now
Tells plan before events (ends end last) = (end ≡ LostFrame → ⊥) → EndsAt plan before events last

-- ---- lines of which no event is

-- the count of events stays
abbrev Counts : State → Effect State → Type 0
Counts state (goes_on now) = now.events ≡ state.events
Counts state (prints word now) = now.events ≡ state.events
Counts state (ends end last) = Unit {0}

lifted_tells : (plan : MovePlan) (before machine : Machine) (effect : Effect State) → machine.heap.stands ≡ before.heap.stands → machine.state.events ≡ before.state.events
    → Counts machine.state effect → Tells plan before [] (lifted machine effect)
lifted_tells plan before machine (goes_on state) same events counts = record { stands = same; events = counts ∙ events }
lifted_tells plan before machine (prints word state) same events counts = record { stands = same; events = counts ∙ events }
lifted_tells plan before machine (ends end state) same events counts = λ way. same

then_tells : (plan : MovePlan) (before : Machine) (next : Machine → Machine) (effect : Effect Machine) → ((machine : Machine) → (next machine).heap.stands ≡ machine.heap.stands)
    → ((machine : Machine) → (next machine).state.events ≡ machine.state.events) → Tells plan before [] effect → Tells plan before [] (then_on next effect)
then_tells plan before next (goes_on machine) keeps counts tells = record { stands = keeps machine ∙ tells.stands; events = counts machine ∙ tells.events }
then_tells plan before next (prints word machine) keeps counts tells = tells
then_tells plan before next (ends end machine) keeps counts tells = tells

stepped_if : (taken : Bool) (state : State) (effect : Effect State) (end : End) → Counts state effect → Counts state (cond taken effect (ends end state))
stepped_if true state effect end counts = counts
stepped_if false state effect end counts = tt {0}

-- a step is taken first
stepped_counts : (setting : Setting) (state : State) (next : State → Effect State) → Counts state (next (record state { steps = state.steps + 1 })) → Counts state (stepped setting state next)
stepped_counts setting state next counts = stepped_if (nat_lt state.steps setting.bound) state (next (record state { steps = state.steps + 1 })) OutOfSteps counts

entering_counts : (setting : Setting) (func : ℕ) (arguments : List Datum) (state : State) → Counts state (entering setting func arguments state)
entering_counts setting func arguments state =
    stepped_if (nat_lt (length state.below + 1) 4096) state (goes_on (record state { running = entered setting func arguments; below = state.running ∷ state.below })) (Traps Depth) refl

started_counts : (setting : Setting) (state : State) (func : ℕ) (argument : Datum) → Counts state (started setting state func argument)
started_counts setting state func argument = stepped_if (nat_lt (length state.tasks) 64) state _ (Traps Tasks) refl

settled_counts : (state : State) (line : Line) (rest : List Line) (result : Result Datum Trap) → Counts state (settled state line rest result)
settled_counts state line rest (Ok datum) = refl
settled_counts state line rest (Err trap) = tt {0}

abbrev IsQuiet : Op → Type 0
IsQuiet Load = ⊥
IsQuiet Store = ⊥
IsQuiet (Call callee types) = ⊥
IsQuiet (Statepoint id callee types) = ⊥
IsQuiet Ret = ⊥
IsQuiet op = Unit {0}

acts_counts : (setting : Setting) (state : State) (line : Line) (rest : List Line) (op : Op) → IsQuiet op → Counts state (acts setting state line rest op)
acts_counts setting state line rest Load quiet = absurd quiet
acts_counts setting state line rest Store quiet = absurd quiet
acts_counts setting state line rest (Call callee types) quiet = absurd quiet
acts_counts setting state line rest (Statepoint id callee types) quiet = absurd quiet
acts_counts setting state line rest Phi quiet = refl
acts_counts setting state line rest GcResult quiet = refl
acts_counts setting state line rest GcRelocate quiet = refl
acts_counts setting state line rest Br quiet = stepped_counts setting state (jumped setting (label_at line.inst.labels 0)) refl
acts_counts setting state line rest CondBr quiet =
    stepped_counts setting state (jumped setting (label_at line.inst.labels (branch_taken (operand state.running.registers line.inst.operands 0)))) refl
acts_counts setting state line rest Switch quiet =
    stepped_counts setting state
    (jumped setting (label_at line.inst.labels (case_taken (operand state.running.registers line.inst.operands 0) (drop 1 line.inst.operands)))) refl
acts_counts setting state line rest Ret quiet = absurd quiet
acts_counts setting state line rest Unreachable quiet = stepped_counts setting state (ends (Traps Executed)) (tt {0})
acts_counts setting state line rest op quiet =
    settled_counts state line rest (value_of_line setting.layouts state.running.registers op line.inst.ty line.inst.operands)

denied_tells : (plan : MovePlan) (before machine : Machine) (deny : Deny) → machine.heap.stands ≡ before.heap.stands → Tells plan before [] (denied machine deny)
denied_tells plan before machine denies.Null same = λ way. same
denied_tells plan before machine denies.Bounds same = λ way. same
denied_tells plan before machine denies.Kind same = λ way. same
denied_tells plan before machine denies.Poison same = λ way. same

loading_tells : (plan : MovePlan) (machine : Machine) (line : Line) (rest : List Line) (found : Result ℕ Deny) → Tells plan machine [] (loading_word machine line rest found)
loading_tells plan machine line rest (Ok word) = record { stands = refl; events = refl }
loading_tells plan machine line rest (Err deny) = denied_tells plan machine machine deny refl

storing_tells : (plan : MovePlan) (machine : Machine) (line : Line) (rest : List Line) (word p : ℕ) (found : Result ℕ Deny) → Tells plan machine [] (storing_word machine line rest word p found)
storing_tells plan machine line rest word p (Ok old) = record { stands = refl; events = refl }
storing_tells plan machine line rest word p (Err deny) = denied_tells plan machine machine deny refl

checking_tells : (plan : MovePlan) (before machine : Machine) (found : Result (Unit {0}) Deny) → machine.heap.stands ≡ before.heap.stands → machine.state.events ≡ before.state.events
    → Tells plan before [] (checking machine found)
checking_tells plan before machine (Ok done) same counts = record { stands = same; events = counts }
checking_tells plan before machine (Err deny) same counts = denied_tells plan before machine deny same

-- ---- returns

handed_tells : (plan : MovePlan) (before machine : Machine) (frames : Option (List Frame)) → machine.heap.stands ≡ before.heap.stands → machine.state.events ≡ before.state.events
    → Tells plan before [] (handed_machine machine frames)
handed_tells plan before machine (Some (frame ∷ below)) same counts = record { stands = same; events = counts }
handed_tells plan before machine (Some []) same counts = λ way. same
handed_tells plan before machine None same counts = λ way. same

ended_tells : (plan : MovePlan) (before machine : Machine) (first : Bool) (end : End) → machine.heap.stands ≡ before.heap.stands → machine.state.events ≡ before.state.events
    → Tells plan before [] (cond first (ends end machine) (handed_machine machine (slice_get machine.state.tasks 0)))
ended_tells plan before machine true end same counts = λ way. same
ended_tells plan before machine false end same counts = handed_tells plan before machine (slice_get machine.state.tasks 0) same counts

returns_tells : (machinery : Machinery) (before machine : Machine) (width : ℕ) (answer : Datum) (frames : List Frame) → machine.heap.stands ≡ before.heap.stands
    → machine.state.events ≡ before.state.events → Tells machinery.plan before [] (returns machinery machine width answer frames)
returns_tells machinery before machine width answer [] same counts = ended_tells machinery.plan before machine _ _ same counts
returns_tells machinery before machine width answer (caller ∷ below) same counts = record { stands = same; events = counts }

behind_by : (plan : MovePlan) (machine : Machine) (next : Machine → Effect Machine) (setting : Setting) (taken : Bool)
    → ((now : Machine) → now.heap.stands ≡ machine.heap.stands → now.state.events ≡ machine.state.events → Tells plan machine [] (next now))
    → (state : State) → state.events ≡ machine.state.events → (end : End) → Tells plan machine [] (behind_step machine next (cond taken (goes_on state) (ends end machine.state)))
behind_by plan machine next setting true tells state counts end = tells _ refl counts
behind_by plan machine next setting false tells state counts end = λ way. refl

-- ---- events

abbrev moved_from : MovePlan → Machine → List Stand
moved_from plan before = moved_at plan (raised before.state.events) before.heap.stands

-- a machine at which the moves of the event have happened
record IsMoved (plan : MovePlan) (before now : Machine) : Type 0 where
  stands : now.heap.stands ≡ moved_from plan before
  events : now.state.events ≡ raised before.state.events

walk_tells : (plan : MovePlan) (before machine : Machine) (events : List Event) (moves : List Moved) (next : Machine → Effect Machine) (stacks : Result (List (List ℕ)) ℕ)
    → map (carried moves) machine.heap.stands ≡ moved_from plan before → machine.state.events ≡ raised before.state.events
    → ((now : Machine) → IsMoved plan before now → Tells plan before events (next now)) → Tells plan before events (after_walk moves machine stacks next)
walk_tells plan before machine events moves next (Ok stacks) moved counts tells = tells _ (record { stands = moved; events = counts })
walk_tells plan before machine events moves next (Err lost) moved counts tells = λ way. absurd (way refl)

moved_tells : (machinery : Machinery) (before machine : Machine) (events : List Event) (moves : List Moved) (next : Machine → Effect Machine)
    → map (carried moves) machine.heap.stands ≡ moved_from machinery.plan before → machine.state.events ≡ raised before.state.events
    → ((now : Machine) → IsMoved machinery.plan before now → Tells machinery.plan before events (next now)) → Tells machinery.plan before events (moved_by machinery moves machine next)
moved_tells machinery before machine events [] next moved counts tells =
    tells machine (record { stands = sym (still machine.heap.stands) ∙ moved; events = counts })
moved_tells machinery before machine events (move ∷ moves) next moved counts tells =
    walk_tells machinery.plan before machine events (move ∷ moves) next (walked_all machinery (move ∷ moves) machine) moved counts tells

eventful_tells : (machinery : Machinery) (before machine : Machine) (events : List Event) (next : Machine → Effect Machine) → machine.heap.stands ≡ before.heap.stands
    → machine.state.events ≡ before.state.events → ((now : Machine) → IsMoved machinery.plan before now → Tells machinery.plan before events (next now))
    → Tells machinery.plan before events (eventful machinery machine next)
eventful_tells machinery before machine events next same counted tells =
    let now : Machine = record machine { state = with_event machine.state } in
    moved_tells machinery before now events (moves_due machinery now.heap now.state.events) next
    (ap (λ (count : ℕ). moved_at machinery.plan (raised count) machine.heap.stands) counted ∙ ap (moved_at machinery.plan (raised before.state.events)) same) (ap raised counted) tells

allocated_tells : (plan : MovePlan) (before machine : Machine) (layout : ℕ) (fields : List Cell) (count : ℤ) (answer : Result ℕ AllocFault)
    → IsMoved plan before machine → Tells plan before (at_new ∷ []) (allocated_machine machine layout fields (unsigned_abs count) answer)
allocated_tells plan before machine layout fields count (Ok address) moved =
    let size = footprint fields (unsigned_abs count) in
    (size, record { stands = ap (λ (stands : List Stand). made_at stands (makes size)) moved.stands; events = moved.events }, refl)
allocated_tells plan before machine layout fields count (Err faults.Count) moved = λ way. (moved.stands, refl)
allocated_tells plan before machine layout fields count (Err faults.Full) moved = λ way. (moved.stands, refl)
allocated_tells plan before machine layout fields count (Err faults.Memory) moved = λ way. (moved.stands, refl)

switched_same : (machine : Machine) (to : ℕ) (frames : Option (List Frame)) → ((switched_machine machine to frames).heap.stands ≡ machine.heap.stands) × ((switched_machine machine to frames).state.events ≡ machine.state.events)
switched_same machine to (Some (frame ∷ below)) = (refl, refl)
switched_same machine to (Some []) = (refl, refl)
switched_same machine to None = (refl, refl)

polled_same : (machinery : Machinery) (machine : Machine) (go : Option ℕ) → machinery.setting.go machine.state.events ≡ go
    → ((polled_machine machinery machine).heap.stands ≡ machine.heap.stands) × ((polled_machine machinery machine).state.events ≡ machine.state.events)
polled_same machinery machine None e = rw e (refl, refl)
polled_same machinery machine (Some to) e = rw e (switched_same machine to (slice_get machine.state.tasks to))

-- ---- calls

calls_tells : (machinery : Machinery) (before machine : Machine) (line : Line) (rest : List Line) (callee : Callee) (operands : List Operand)
    → machine.heap.stands ≡ before.heap.stands → machine.state.events ≡ before.state.events → Tells machinery.plan before (event_at callee) (calls machinery machine line rest callee operands)
calls_tells machinery before machine line rest (Fun func) operands same counted =
    let arguments = map (value machine.state.running.registers) operands in
    let next = entering machinery.setting func.0 arguments in
    then_tells machinery.plan before _ (lifted machine (stepped machinery.setting machine.state next)) (λ now. refl) (λ now. refl)
    (lifted_tells machinery.plan before machine (stepped machinery.setting machine.state next) same counted
    (stepped_counts machinery.setting machine.state next (entering_counts machinery.setting func.0 arguments (record machine.state { steps = machine.state.steps + 1 }))))
calls_tells machinery before machine line rest (New layout) operands same counted =
    eventful_tells machinery before machine (at_new ∷ []) (λ now. allocating_machine now layout (fields_in machinery.setting.layouts layout) (signed 64 (number_in (operand now.state.running.registers operands 0)))) same counted
    (λ now moved. allocated_tells machinery.plan before now layout (fields_in machinery.setting.layouts layout) (signed 64 (number_in (operand now.state.running.registers operands 0)))
    (alloc_answer now.heap (fields_in machinery.setting.layouts layout) (signed 64 (number_in (operand now.state.running.registers operands 0)))) moved)
calls_tells machinery before machine line rest Print operands same counted = record { stands = same; events = counted }
calls_tells machinery before machine line rest Read operands same counted = taken_tells machine.state.input refl
  where
    taken_tells : (input : List ℤ) → machine.state.input ≡ input → Tells machinery.plan before [] (calls machinery machine line rest Read operands)
    taken_tells [] is = rw is (λ way. same)
    taken_tells (first ∷ later) is = rw is (record { stands = same; events = counted })
calls_tells machinery before machine line rest TaskStart operands same counted =
    let func = function_in (slice_get operands 0) in
    let argument = operand machine.state.running.registers operands 1 in
    then_tells machinery.plan before _ (lifted machine (started machinery.setting machine.state func argument)) (λ now. refl) (λ now. refl)
    (lifted_tells machinery.plan before machine (started machinery.setting machine.state func argument) same counted (started_counts machinery.setting machine.state func argument))
calls_tells machinery before machine line rest Poll operands same counted =
    eventful_tells machinery before machine (at_poll ∷ []) (λ now. goes_on (polled_machine machinery now)) same counted
    (λ now moved. (
      record {
        stands = (polled_same machinery now (machinery.setting.go now.state.events) refl).0 ∙ moved.stands;
        events = (polled_same machinery now (machinery.setting.go now.state.events) refl).1 ∙ moved.events;
      },
      refl,
    ))
calls_tells machinery before machine line rest Check operands same counted = checking_tells machinery.plan before machine _ same counted
calls_tells machinery before machine line rest Same operands same counted = record { stands = same; events = counted }

-- ---- lines

acts_tells : (machinery : Machinery) (machine : Machine) (line : Line) (rest : List Line) (op : Op) → Tells machinery.plan machine (event_of op) (machine_acts machinery machine line rest op)
acts_tells machinery machine line rest (Gep elem index_width place) = record { stands = refl; events = refl }
acts_tells machinery machine line rest Load = loading_tells machinery.plan machine line rest _
acts_tells machinery machine line rest Store = storing_tells machinery.plan machine line rest _ _ _
acts_tells machinery machine line rest (Call callee types) = calls_tells machinery machine machine line rest callee _ refl refl
acts_tells machinery machine line rest (Statepoint id callee types) = calls_tells machinery machine _ line rest callee _ refl refl
acts_tells machinery machine line rest Ret =
    behind_by machinery.plan machine (λ now. returns machinery now (width_of line.inst.ty) (operand now.state.running.registers line.inst.operands 0) now.state.below)
    machinery.setting (nat_lt machine.state.steps machinery.setting.bound)
    (λ now same counts. returns_tells machinery machine now (width_of line.inst.ty) (operand now.state.running.registers line.inst.operands 0) now.state.below same counts) _ refl _
acts_tells machinery machine line rest op = lifted_tells machinery.plan machine machine (acts machinery.setting machine.state line rest op) refl refl (acts_counts machinery.setting machine.state line rest op (tt {0}))

at_tells : (machinery : Machinery) (machine : Machine) (lines : List Line) → Tells machinery.plan machine (events_at lines) (machine_at machinery machine lines)
at_tells machinery machine [] = λ way. refl
at_tells machinery machine (line ∷ rest) = acts_tells machinery machine line rest line.inst.op

-- what a step does is what its line does
pub step_tells : (machinery : Machinery) (machine : Machine) → Tells machinery.plan machine (events_at machine.state.running.rest) (machine_step machinery machine)
unfolding machine_step
step_tells machinery machine = at_tells machinery machine machine.state.running.rest
