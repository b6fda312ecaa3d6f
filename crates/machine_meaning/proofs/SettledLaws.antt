-- In every state of a run the objects are settled: no two of them overlap, and each stands where it was made or was moved.
use Rattle.std.proofs.Common.{◌≡◌, ℕ, zero, suc, ◌+◌, Bool, true, false, List, [], ◌∷◌, ◌++◌, map, refl, subst, arith, cond, ltb, Option, Some, None, Result, Ok, Err, ℤ}
use Rattle.std.specs.Prelude.{unsigned_abs, int_lt, pos, slice_get}
use Rattle.std.specs.List.{sum_by}
use Rattle.std.proofs.lemmas.Bool.{ltb-false}
use Rattle.sp_ids.specs.declared.ends.End.{End}
use Rattle.sp_ids.specs.Numbers.{signed}
use Rattle.ir_ast.specs.declared.cells.Cell.{Cell}
use Rattle.ir_ast.specs.declared.ops.Callee.{Callee}
use Rattle.ir_ast.specs.declared.ops.Callee.TheVariants.{Fun, New, Print, Read, TaskStart, Poll, Check, Same}
use Rattle.ir_ast.specs.declared.ops.Op.{Op}
use Rattle.ir_ast.specs.declared.ops.Op.TheVariants.{Gep, Load, Store, Call, Statepoint, Ret}
use Rattle.ir_ast.specs.declared.ops.Operand.{Operand}
use Rattle.ir_ast.specs.Sizes.{fields_in}
use Rattle.ir_ast.specs.Objects.{Datum}
use Rattle.moving_heap.specs.declared.heap.AllocFault.{AllocFault}
use Rattle.moving_heap.specs.declared.heap.AllocFault.TheVariants as faults
use Rattle.moving_heap.specs.declared.heap.Deny.{Deny}
use Rattle.moving_heap.specs.declared.heap.Deny.TheVariants as denies
use Rattle.moving_heap.specs.declared.stands.Moved.{Moved}
use Rattle.moving_heap.specs.declared.stands.Stand.{Stand}
use Rattle.moving_heap.specs.Places.{carried, first_place, new_stand}
use Rattle.moving_heap.specs.Heaps.{alloc_answer, footprint}
use Rattle.moving_heap.specs.Settled.{AreSettled}
use Rattle.moving_heap.proofs.PlaceLemmas.{group_settled, settled_added}
use Rattle.moving_heap.proofs.SizeLemmas.{footprint_bytes}
use Rattle.object_meaning.specs.Effects.{Effect, goes_on, prints, ends, Progress, after}
use Rattle.object_meaning.specs.Lines.{Line}
use Rattle.object_meaning.specs.Runs.{Next, Go, End as Over, Reaches, advance, goes}
use Rattle.object_meaning.specs.States.{Frame, State}
use Rattle.object_meaning.specs.Calls.{called, stepped}
use Rattle.object_meaning.specs.Numbers.{width_of}
use Rattle.object_meaning.specs.Registers.{number_in, operand}
use Rattle.object_meaning.specs.Steps.{acts}
use Rattle.object_meaning.specs.Tasks.{with_event}
use Rattle.machine_meaning.specs.EventPlaces.{flip_of}
use Rattle.machine_meaning.specs.Machines.{Machine, Machinery, gone_on, lifted, then_on}
use Rattle.machine_meaning.specs.Moving.{after_walk, eventful, moved_by, moves_due, walked_all}
use Rattle.machine_meaning.specs.MachineTasks.{allocated_machine, allocating_machine, handed_machine, polled_machine, switched_machine}
use Rattle.machine_meaning.specs.MachineSteps.{behind_step, calls, checking, denied, loading_word, machine_acts, machine_at, machine_step, returns, storing_word}
use Rattle.machine_meaning.specs.MachineRuns.{machine_opening, machine_proceeds}

abbrev pub IsSound : Machine → Type 0
IsSound machine = AreSettled machine.heap.stands

abbrev pub IsSoundAfter : Effect Machine → Type 0
IsSoundAfter (goes_on machine) = IsSound machine
IsSoundAfter (prints word machine) = IsSound machine
IsSoundAfter (ends end machine) = IsSound machine

lifted_sound : (machine : Machine) (effect : Effect State) → IsSound machine → IsSoundAfter (lifted machine effect)
lifted_sound machine (goes_on state) are = are
lifted_sound machine (prints word state) are = are
lifted_sound machine (ends end state) are = are

then_sound : (next : Machine → Machine) (effect : Effect Machine) → ((machine : Machine) → IsSound machine → IsSound (next machine)) → IsSoundAfter effect → IsSoundAfter (then_on next effect)
then_sound next (goes_on machine) keeps are = keeps machine are
then_sound next (prints word machine) keeps are = are
then_sound next (ends end machine) keeps are = are

-- ---- events

walk_sound : (machinery : Machinery) (moves : List Moved) (machine : Machine) (next : Machine → Effect Machine) (stacks : Result (List (List ℕ)) ℕ)
    → AreSettled (map (carried moves) machine.heap.stands) → IsSound machine → ((now : Machine) → IsSound now → IsSoundAfter (next now))
    → IsSoundAfter (after_walk moves machine stacks next)
walk_sound machinery moves machine next (Ok stacks) moved are keeps = keeps _ moved
walk_sound machinery moves machine next (Err lost) moved are keeps = are

moved_sound : (machinery : Machinery) (moves : List Moved) (machine : Machine) (next : Machine → Effect Machine) → moves_due machinery machine.heap machine.state.events ≡ moves
    → IsSound machine → ((now : Machine) → IsSound now → IsSoundAfter (next now)) → IsSoundAfter (moved_by machinery moves machine next)
moved_sound machinery [] machine next due are keeps = keeps machine are
moved_sound machinery (move ∷ moves) machine next due are keeps =
    let event = machine.state.events in
    let moved = group_settled machine.heap.stands (machinery.plan.group event) (flip_of machinery.plan event) are (λ none. let no : ⊥ = cc in no) in
    walk_sound machinery (move ∷ moves) machine next (walked_all machinery (move ∷ moves) machine)
    (subst (λ (ms : List Moved). AreSettled (map (carried ms) machine.heap.stands)) due moved) are keeps

eventful_sound : (machinery : Machinery) (machine : Machine) (next : Machine → Effect Machine) → IsSound machine → ((now : Machine) → IsSound now → IsSoundAfter (next now))
    → IsSoundAfter (eventful machinery machine next)
eventful_sound machinery machine next are keeps =
    let now : Machine = record machine { state = with_event machine.state } in
    moved_sound machinery (moves_due machinery now.heap now.state.events) now next refl are keeps

-- ---- new objects

no_error : (fault : AllocFault) (address : ℕ) → ◌≡◌ {A = Result ℕ AllocFault} (Err fault) (Ok address) → ⊥
no_error fault address e = cc

room_of : (negative over : Bool) (address place : ℕ) → ◌≡◌ {A = Result ℕ AllocFault} (cond negative (Err faults.Count) (cond over (Err faults.Full) (Ok place))) (Ok address) → over ≡ false
room_of true over address place e = absurd (no_error faults.Count address e)
room_of false true address place e = absurd (no_error faults.Full address e)
room_of false false address place e = refl

added : (stands : List Stand) (fields : List Cell) (count : ℕ) → AreSettled stands → ltb 67108864 (sum_by (λ stand. stand.size) stands + footprint fields count) ≡ false
    → AreSettled (stands ++ new_stand stands (footprint fields count) ∷ [])
added stands fields count are room =
    let bytes = footprint_bytes fields count in
    settled_added stands (footprint fields count) are (omega arith) (omega arith) (ltb-false 67108864 (sum_by (λ stand. stand.size) stands + footprint fields count) room)

allocated_sound : (machine : Machine) (layout : ℕ) (fields : List Cell) (count : ℤ) (answer : Result ℕ AllocFault) → alloc_answer machine.heap fields count ≡ answer → IsSound machine
    → IsSoundAfter (allocated_machine machine layout fields (unsigned_abs count) answer)
allocated_sound machine layout fields count (Ok address) e are =
    added machine.heap.stands fields (unsigned_abs count) are
    (room_of (int_lt count (pos 0)) (ltb 67108864 (sum_by (λ stand. stand.size) machine.heap.stands + footprint fields (unsigned_abs count))) address (first_place machine.heap.stands) e)
allocated_sound machine layout fields count (Err faults.Count) e are = are
allocated_sound machine layout fields count (Err faults.Full) e are = are
allocated_sound machine layout fields count (Err faults.Memory) e are = are

-- ---- tasks

switched_sound : (machine : Machine) (to : ℕ) (frames : Option (List Frame)) → IsSound machine → IsSound (switched_machine machine to frames)
switched_sound machine to (Some (frame ∷ below)) are = are
switched_sound machine to (Some []) are = are
switched_sound machine to None are = are

polled_by : (machinery : Machinery) (machine : Machine) (go : Option ℕ) → machinery.setting.go machine.state.events ≡ go → IsSound machine → IsSound (polled_machine machinery machine)
polled_by machinery machine None e are = rw e are
polled_by machinery machine (Some to) e are = rw e (switched_sound machine to (slice_get machine.state.tasks to) are)

handed_sound : (machine : Machine) (frames : Option (List Frame)) → IsSound machine → IsSoundAfter (handed_machine machine frames)
handed_sound machine (Some (frame ∷ below)) are = are
handed_sound machine (Some []) are = are
handed_sound machine None are = are

ended_by : (machine : Machine) (width : ℕ) (answer : Datum) (first : Bool) (end : End) → IsSound machine → IsSoundAfter (cond first (ends end machine) (handed_machine machine (slice_get machine.state.tasks 0)))
ended_by machine width answer true end are = are
ended_by machine width answer false end are = handed_sound machine (slice_get machine.state.tasks 0) are

returns_sound : (machinery : Machinery) (machine : Machine) (width : ℕ) (answer : Datum) (frames : List Frame) → IsSound machine → IsSoundAfter (returns machinery machine width answer frames)
returns_sound machinery machine width answer [] are = ended_by machine width answer _ _ are
returns_sound machinery machine width answer (caller ∷ below) are = are

behind_sound : (machine : Machine) (next : Machine → Effect Machine) (effect : Effect State) → ((now : Machine) → IsSound now → IsSoundAfter (next now)) → IsSound machine → IsSoundAfter (behind_step machine next effect)
behind_sound machine next (goes_on state) keeps are = keeps _ are
behind_sound machine next (prints word state) keeps are = are
behind_sound machine next (ends end state) keeps are = are

-- ---- lines

denied_sound : (machine : Machine) (deny : Deny) → IsSound machine → IsSoundAfter (denied machine deny)
denied_sound machine denies.Null are = are
denied_sound machine denies.Bounds are = are
denied_sound machine denies.Kind are = are
denied_sound machine denies.Poison are = are

loading_sound : (machine : Machine) (line : Line) (rest : List Line) (found : Result ℕ Deny) → IsSound machine → IsSoundAfter (loading_word machine line rest found)
loading_sound machine line rest (Ok word) are = are
loading_sound machine line rest (Err deny) are = denied_sound machine deny are

storing_sound : (machine : Machine) (line : Line) (rest : List Line) (word p : ℕ) (found : Result ℕ Deny) → IsSound machine → IsSoundAfter (storing_word machine line rest word p found)
storing_sound machine line rest word p (Ok old) are = are
storing_sound machine line rest word p (Err deny) are = denied_sound machine deny are

checking_sound : (machine : Machine) (found : Result (Unit {0}) Deny) → IsSound machine → IsSoundAfter (checking machine found)
checking_sound machine (Ok done) are = are
checking_sound machine (Err deny) are = denied_sound machine deny are

calls_sound : (machinery : Machinery) (machine : Machine) (line : Line) (rest : List Line) (callee : Callee) (operands : List Operand) → IsSound machine
    → IsSoundAfter (calls machinery machine line rest callee operands)
calls_sound machinery machine line rest (Fun func) operands are = then_sound _ (lifted machine _) (λ now sound. sound) (lifted_sound machine _ are)
calls_sound machinery machine line rest (New layout) operands are =
    eventful_sound machinery machine (λ now. allocating_machine now layout (fields_in machinery.setting.layouts layout) (signed 64 (number_in (operand now.state.running.registers operands 0)))) are
    (λ now sound. allocated_sound now layout (fields_in machinery.setting.layouts layout) (signed 64 (number_in (operand now.state.running.registers operands 0)))
    (alloc_answer now.heap (fields_in machinery.setting.layouts layout) (signed 64 (number_in (operand now.state.running.registers operands 0)))) refl sound)
calls_sound machinery machine line rest Print operands are =
    lifted_sound machine (called machinery.setting machine.state (λ answer. (gone_on answer machine).state) Print operands) are
calls_sound machinery machine line rest Read operands are =
    lifted_sound machine (called machinery.setting machine.state (λ answer. (gone_on answer machine).state) Read operands) are
calls_sound machinery machine line rest TaskStart operands are = then_sound _ (lifted machine _) (λ now sound. sound) (lifted_sound machine _ are)
calls_sound machinery machine line rest Poll operands are =
    eventful_sound machinery machine _ are (λ now sound. polled_by machinery now (machinery.setting.go now.state.events) refl sound)
calls_sound machinery machine line rest Check operands are = checking_sound machine _ are
calls_sound machinery machine line rest Same operands are = are

acts_sound : (machinery : Machinery) (machine : Machine) (line : Line) (rest : List Line) (op : Op) → IsSound machine → IsSoundAfter (machine_acts machinery machine line rest op)
acts_sound machinery machine line rest (Gep elem index_width place) are = are
acts_sound machinery machine line rest Load are = loading_sound machine line rest _ are
acts_sound machinery machine line rest Store are = storing_sound machine line rest _ _ _ are
acts_sound machinery machine line rest (Call callee types) are = calls_sound machinery machine line rest callee _ are
acts_sound machinery machine line rest (Statepoint id callee types) are = calls_sound machinery _ line rest callee _ are
acts_sound machinery machine line rest Ret are =
    behind_sound machine (λ now. returns machinery now (width_of line.inst.ty) (operand now.state.running.registers line.inst.operands 0) now.state.below)
    (stepped machinery.setting machine.state goes_on)
    (λ now sound. returns_sound machinery now (width_of line.inst.ty) (operand now.state.running.registers line.inst.operands 0) now.state.below sound) are
acts_sound machinery machine line rest op are = lifted_sound machine (acts machinery.setting machine.state line rest op) are

at_sound : (machinery : Machinery) (machine : Machine) (lines : List Line) → IsSound machine → IsSoundAfter (machine_at machinery machine lines)
at_sound machinery machine [] are = are
at_sound machinery machine (line ∷ rest) are = acts_sound machinery machine line rest line.inst.op are

pub step_sound : (machinery : Machinery) (machine : Machine) → IsSound machine → IsSoundAfter (machine_step machinery machine)
unfolding machine_step
step_sound machinery machine are = at_sound machinery machine machine.state.running.rest are

-- ---- runs

abbrev IsSoundNext : Next End (Progress Machine) → Type 0
IsSoundNext (Go progress) = IsSound progress.state
IsSoundNext (Over end progress) = IsSound progress.state

after_sound : (lines : List (List ℕ)) (effect : Effect Machine) → IsSoundAfter effect → IsSoundNext (after lines effect)
after_sound lines (goes_on machine) are = are
after_sound lines (prints word machine) are = are
after_sound lines (ends end machine) are = are

advance_sound : (machinery : Machinery) (next : Next End (Progress Machine)) → IsSoundNext next → IsSoundNext (advance (machine_proceeds machinery) next)
unfolding machine_proceeds
advance_sound machinery (Go progress) are = after_sound progress.lines (machine_step machinery progress.state) (step_sound machinery progress.state are)
advance_sound machinery (Over end progress) are = are

goes_sound : (machinery : Machinery) (count : ℕ) (next : Next End (Progress Machine)) → IsSoundNext next → IsSoundNext (goes (machine_proceeds machinery) count next)
goes_sound machinery zero next are = are
goes_sound machinery (suc count) next are = goes_sound machinery count (advance (machine_proceeds machinery) next) (advance_sound machinery next are)

none_settled : AreSettled []
none_settled = record {
  each = λ k d l. absurd (omega arith);
  within = omega arith;
  numbered = record { at = λ k d l. absurd (omega arith) };
  apart = refl;
}
