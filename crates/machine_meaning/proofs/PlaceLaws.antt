-- A step changes no place but at an event, and there as the definition of places by events says.
use Rattle.std.proofs.Common.{◌≡◌, ℕ, Bool, true, false, List, [], ◌∷◌, map, refl, sym, ap, ◌∙◌, cond, Option, Some, None, Result, Ok, Err, ℤ, ◌⊎◌, inl, inr}
use Rattle.std.specs.Prelude.{unsigned_abs, slice_get}
use Rattle.sp_ids.specs.declared.ends.End.{End}
use Rattle.sp_ids.specs.Numbers.{signed}
use Rattle.ir_ast.specs.declared.cells.Cell.{Cell}
use Rattle.ir_ast.specs.declared.ops.Callee.{Callee}
use Rattle.ir_ast.specs.declared.ops.Callee.TheVariants.{Fun, New, Print, Read, TaskStart, Poll, Check, Same}
use Rattle.ir_ast.specs.declared.ops.Op.{Op}
use Rattle.ir_ast.specs.declared.ops.Op.TheVariants.{Gep, Load, Store, Call, Statepoint, Ret}
use Rattle.ir_ast.specs.declared.ops.Operand.{Operand}
use Rattle.ir_ast.specs.Sizes.{fields_in}
use Rattle.ir_ast.specs.Objects.{Datum}
use Rattle.moving_heap.specs.declared.heap.AllocFault.{AllocFault}
use Rattle.moving_heap.specs.declared.heap.AllocFault.TheVariants as faults
use Rattle.moving_heap.specs.declared.heap.Deny.{Deny}
use Rattle.moving_heap.specs.declared.heap.Deny.TheVariants as denies
use Rattle.moving_heap.specs.declared.stands.Moved.{Moved}
use Rattle.moving_heap.specs.declared.stands.Stand.{Stand}
use Rattle.moving_heap.specs.Places.{carried}
use Rattle.moving_heap.specs.Heaps.{alloc_answer, footprint}
use Rattle.object_meaning.specs.Effects.{Effect, goes_on, prints, ends}
use Rattle.object_meaning.specs.Lines.{Line}
use Rattle.object_meaning.specs.States.{Frame, State}
use Rattle.object_meaning.specs.Calls.{called, stepped}
use Rattle.object_meaning.specs.Numbers.{width_of}
use Rattle.object_meaning.specs.Registers.{number_in, operand}
use Rattle.object_meaning.specs.Steps.{acts}
use Rattle.object_meaning.specs.Tasks.{with_event}
use Rattle.machine_meaning.specs.EventPlaces.{Occasion, made_at, makes, moved_at, polls, stands_at_event}
use Rattle.tool_io.specs.Counts.{raised}
use Rattle.machine_meaning.specs.Machines.{Machine, Machinery, gone_on, lifted, then_on}
use Rattle.machine_meaning.specs.Moving.{after_walk, eventful, moved_by, moves_due, walked_all}
use Rattle.machine_meaning.specs.MachineTasks.{allocated_machine, allocating_machine, handed_machine, polled_machine, switched_machine}
use Rattle.machine_meaning.specs.MachineSteps.{behind_step, calls, checking, denied, loading_word, machine_acts, machine_at, machine_step, returns, storing_word}

-- after a step from a machine: nothing has changed its place, or an event has happened
abbrev pub IsPlaced : Machinery → Machine → Machine → Type 0
IsPlaced machinery before machine =
    (machine.heap.stands ≡ before.heap.stands)
    ⊎ ((occasion : Occasion) × (machine.heap.stands ≡ stands_at_event machinery.plan (with_event before.state).events before.heap.stands occasion))

abbrev pub IsPlacedAfter : Machinery → Machine → Effect Machine → Type 0
IsPlacedAfter machinery before (goes_on machine) = IsPlaced machinery before machine
IsPlacedAfter machinery before (prints word machine) = IsPlaced machinery before machine
IsPlacedAfter machinery before (ends end machine) = Unit {0}

lifted_placed : (machinery : Machinery) (before machine : Machine) (effect : Effect State) → machine.heap.stands ≡ before.heap.stands → IsPlacedAfter machinery before (lifted machine effect)
lifted_placed machinery before machine (goes_on state) same = inl same
lifted_placed machinery before machine (prints word state) same = inl same
lifted_placed machinery before machine (ends end state) same = tt

then_placed : (machinery : Machinery) (before : Machine) (next : Machine → Machine) (effect : Effect Machine) → ((machine : Machine) → (next machine).heap.stands ≡ machine.heap.stands)
    → IsPlacedAfter machinery before effect → IsPlacedAfter machinery before (then_on next effect)
then_placed machinery before next (goes_on machine) keeps placed = elim placed [ inl same ↦ inl (keeps machine ∙ same) | inr at ↦ inr (at.0, keeps machine ∙ at.1) ]
then_placed machinery before next (prints word machine) keeps placed = placed
then_placed machinery before next (ends end machine) keeps placed = tt

-- ---- events

-- where the objects stand when the moves of the event have happened
abbrev moved_from : Machinery → Machine → List Stand
moved_from machinery before = moved_at machinery.plan (with_event before.state).events before.heap.stands

pub still : (stands : List Stand) → map (carried []) stands ≡ stands
still [] = refl
still (stand ∷ stands) = ap (λ (rest : List Stand). stand ∷ rest) (still stands)

walk_placed : (machinery : Machinery) (before machine : Machine) (moves : List Moved) (next : Machine → Effect Machine) (stacks : Result (List (List ℕ)) ℕ)
    → map (carried moves) machine.heap.stands ≡ moved_from machinery before → ((now : Machine) → now.heap.stands ≡ moved_from machinery before → IsPlacedAfter machinery before (next now))
    → IsPlacedAfter machinery before (after_walk moves machine stacks next)
walk_placed machinery before machine moves next (Ok stacks) moved placed = placed _ moved
walk_placed machinery before machine moves next (Err lost) moved placed = tt

moved_placed : (machinery : Machinery) (before machine : Machine) (moves : List Moved) (next : Machine → Effect Machine) → map (carried moves) machine.heap.stands ≡ moved_from machinery before
    → ((now : Machine) → now.heap.stands ≡ moved_from machinery before → IsPlacedAfter machinery before (next now)) → IsPlacedAfter machinery before (moved_by machinery moves machine next)
moved_placed machinery before machine [] next moved placed = placed machine (sym (still machine.heap.stands) ∙ moved)
moved_placed machinery before machine (move ∷ moves) next moved placed =
    walk_placed machinery before machine (move ∷ moves) next (walked_all machinery (move ∷ moves) machine) moved placed

eventful_placed : (machinery : Machinery) (before machine : Machine) (next : Machine → Effect Machine) → machine.heap.stands ≡ before.heap.stands → machine.state.events ≡ before.state.events
    → ((now : Machine) → now.heap.stands ≡ moved_from machinery before → IsPlacedAfter machinery before (next now)) → IsPlacedAfter machinery before (eventful machinery machine next)
eventful_placed machinery before machine next same counted placed =
    let now : Machine = record machine { state = with_event machine.state } in
    moved_placed machinery before now (moves_due machinery now.heap now.state.events) next
    (ap (λ (events : ℕ). moved_at machinery.plan (raised events) machine.heap.stands) counted ∙ ap (moved_at machinery.plan (with_event before.state).events) same) placed

allocated_placed : (machinery : Machinery) (before machine : Machine) (layout : ℕ) (fields : List Cell) (count : ℤ) (answer : Result ℕ AllocFault)
    → machine.heap.stands ≡ moved_from machinery before → IsPlacedAfter machinery before (allocated_machine machine layout fields (unsigned_abs count) answer)
allocated_placed machinery before machine layout fields count (Ok address) moved =
    inr (makes (footprint fields (unsigned_abs count)), ap (λ (stands : List Stand). made_at stands (makes (footprint fields (unsigned_abs count)))) moved)
allocated_placed machinery before machine layout fields count (Err faults.Count) moved = tt
allocated_placed machinery before machine layout fields count (Err faults.Full) moved = tt
allocated_placed machinery before machine layout fields count (Err faults.Memory) moved = tt

-- ---- tasks

switched_same : (machine : Machine) (to : ℕ) (frames : Option (List Frame)) → (switched_machine machine to frames).heap.stands ≡ machine.heap.stands
switched_same machine to (Some (frame ∷ below)) = refl
switched_same machine to (Some []) = refl
switched_same machine to None = refl

polled_same : (machinery : Machinery) (machine : Machine) (go : Option ℕ) → machinery.setting.go machine.state.events ≡ go → (polled_machine machinery machine).heap.stands ≡ machine.heap.stands
polled_same machinery machine None e = rw e refl
polled_same machinery machine (Some to) e = rw e (switched_same machine to (slice_get machine.state.tasks to))

handed_placed : (machinery : Machinery) (before machine : Machine) (frames : Option (List Frame)) → machine.heap.stands ≡ before.heap.stands → IsPlacedAfter machinery before (handed_machine machine frames)
handed_placed machinery before machine (Some (frame ∷ below)) same = inl same
handed_placed machinery before machine (Some []) same = tt
handed_placed machinery before machine None same = tt

ended_by : (machinery : Machinery) (before machine : Machine) (first : Bool) (end : End) → machine.heap.stands ≡ before.heap.stands
    → IsPlacedAfter machinery before (cond first (ends end machine) (handed_machine machine (slice_get machine.state.tasks 0)))
ended_by machinery before machine true end same = tt
ended_by machinery before machine false end same = handed_placed machinery before machine (slice_get machine.state.tasks 0) same

returns_placed : (machinery : Machinery) (before machine : Machine) (width : ℕ) (answer : Datum) (frames : List Frame) → machine.heap.stands ≡ before.heap.stands
    → IsPlacedAfter machinery before (returns machinery machine width answer frames)
returns_placed machinery before machine width answer [] same = ended_by machinery before machine _ _ same
returns_placed machinery before machine width answer (caller ∷ below) same = inl same

behind_placed : (machinery : Machinery) (machine : Machine) (next : Machine → Effect Machine) (effect : Effect State)
    → ((now : Machine) → now.heap.stands ≡ machine.heap.stands → IsPlacedAfter machinery machine (next now)) → IsPlacedAfter machinery machine (behind_step machine next effect)
behind_placed machinery machine next (goes_on state) placed = placed _ refl
behind_placed machinery machine next (prints word state) placed = inl refl
behind_placed machinery machine next (ends end state) placed = tt

-- ---- lines

denied_placed : (machinery : Machinery) (before machine : Machine) (deny : Deny) → IsPlacedAfter machinery before (denied machine deny)
denied_placed machinery before machine denies.Null = tt
denied_placed machinery before machine denies.Bounds = tt
denied_placed machinery before machine denies.Kind = tt
denied_placed machinery before machine denies.Poison = tt

loading_placed : (machinery : Machinery) (machine : Machine) (line : Line) (rest : List Line) (found : Result ℕ Deny) → IsPlacedAfter machinery machine (loading_word machine line rest found)
loading_placed machinery machine line rest (Ok word) = inl refl
loading_placed machinery machine line rest (Err deny) = denied_placed machinery machine machine deny

storing_placed : (machinery : Machinery) (machine : Machine) (line : Line) (rest : List Line) (word p : ℕ) (found : Result ℕ Deny) → IsPlacedAfter machinery machine (storing_word machine line rest word p found)
storing_placed machinery machine line rest word p (Ok old) = inl refl
storing_placed machinery machine line rest word p (Err deny) = denied_placed machinery machine machine deny

checking_placed : (machinery : Machinery) (before machine : Machine) (found : Result (Unit {0}) Deny) → machine.heap.stands ≡ before.heap.stands → IsPlacedAfter machinery before (checking machine found)
checking_placed machinery before machine (Ok done) same = inl same
checking_placed machinery before machine (Err deny) same = denied_placed machinery before machine deny

calls_placed : (machinery : Machinery) (before machine : Machine) (line : Line) (rest : List Line) (callee : Callee) (operands : List Operand)
    → machine.heap.stands ≡ before.heap.stands → machine.state.events ≡ before.state.events → IsPlacedAfter machinery before (calls machinery machine line rest callee operands)
calls_placed machinery before machine line rest (Fun func) operands same counted = then_placed machinery before _ (lifted machine _) (λ now. refl) (lifted_placed machinery before machine _ same)
calls_placed machinery before machine line rest (New layout) operands same counted =
    eventful_placed machinery before machine (λ now. allocating_machine now layout (fields_in machinery.setting.layouts layout) (signed 64 (number_in (operand now.state.running.registers operands 0)))) same counted
    (λ now moved. allocated_placed machinery before now layout (fields_in machinery.setting.layouts layout) (signed 64 (number_in (operand now.state.running.registers operands 0)))
    (alloc_answer now.heap (fields_in machinery.setting.layouts layout) (signed 64 (number_in (operand now.state.running.registers operands 0)))) moved)
calls_placed machinery before machine line rest Print operands same counted =
    lifted_placed machinery before machine (called machinery.setting machine.state (λ answer. (gone_on answer machine).state) Print operands) same
calls_placed machinery before machine line rest Read operands same counted =
    lifted_placed machinery before machine (called machinery.setting machine.state (λ answer. (gone_on answer machine).state) Read operands) same
calls_placed machinery before machine line rest TaskStart operands same counted = then_placed machinery before _ (lifted machine _) (λ now. refl) (lifted_placed machinery before machine _ same)
calls_placed machinery before machine line rest Poll operands same counted =
    eventful_placed machinery before machine (λ now. goes_on (polled_machine machinery now)) same counted
    (λ now moved. inr (polls, polled_same machinery now (machinery.setting.go now.state.events) refl ∙ moved))
calls_placed machinery before machine line rest Check operands same counted = checking_placed machinery before machine _ same
calls_placed machinery before machine line rest Same operands same counted = inl same

acts_placed : (machinery : Machinery) (machine : Machine) (line : Line) (rest : List Line) (op : Op) → IsPlacedAfter machinery machine (machine_acts machinery machine line rest op)
acts_placed machinery machine line rest (Gep elem index_width place) = inl refl
acts_placed machinery machine line rest Load = loading_placed machinery machine line rest _
acts_placed machinery machine line rest Store = storing_placed machinery machine line rest _ _ _
acts_placed machinery machine line rest (Call callee types) = calls_placed machinery machine machine line rest callee _ refl refl
acts_placed machinery machine line rest (Statepoint id callee types) = calls_placed machinery machine _ line rest callee _ refl refl
acts_placed machinery machine line rest Ret =
    behind_placed machinery machine (λ now. returns machinery now (width_of line.inst.ty) (operand now.state.running.registers line.inst.operands 0) now.state.below)
    (stepped machinery.setting machine.state goes_on)
    (λ now same. returns_placed machinery machine now (width_of line.inst.ty) (operand now.state.running.registers line.inst.operands 0) now.state.below same)
acts_placed machinery machine line rest op = lifted_placed machinery machine machine (acts machinery.setting machine.state line rest op) refl

at_placed : (machinery : Machinery) (machine : Machine) (lines : List Line) → IsPlacedAfter machinery machine (machine_at machinery machine lines)
at_placed machinery machine [] = tt
at_placed machinery machine (line ∷ rest) = acts_placed machinery machine line rest line.inst.op
