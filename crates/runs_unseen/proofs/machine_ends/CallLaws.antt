-- Calls of the machine lead on.
use Rattle.std.proofs.Common.{◌≡◌, ℕ, ◌+◌, Bool, true, false, ◌==◌, List, [], ◌∷◌, map, Option, Some, None, Result, Ok, Err, refl, arith}
use Rattle.std.specs.Prelude.{ℤ, if◌then◌else◌, ◌&&◌, slice_get, unsigned_abs}
use Rattle.std.specs.Option.{option_map_or}
use Rattle.std.specs.Int.{w64, cast_unsigned}
use Rattle.sp_ids.specs.Numbers.{signed}
use Rattle.sp_ids.specs.declared.ends.End.TheVariants as ended
use Rattle.ir_ast.specs.declared.cells.Cell.{Cell}
use Rattle.ir_ast.specs.declared.ops.Callee.{Callee}
use Rattle.ir_ast.specs.declared.ops.Callee.TheVariants.{Fun, New, Print, Read, TaskStart, Poll, Check, Same}
use Rattle.ir_ast.specs.declared.ops.Operand.{Operand}
use Rattle.ir_ast.specs.Objects.{Datum, number}
use Rattle.ir_ast.specs.Sizes.{fields_in}
use Rattle.moving_heap.specs.declared.heap.AllocFault.{AllocFault}
use Rattle.moving_heap.specs.declared.heap.AllocFault.TheVariants as faults
use Rattle.moving_heap.specs.declared.heap.Deny.{Deny}
use Rattle.moving_heap.specs.declared.heap.Deny.TheVariants as denies
use Rattle.moving_heap.specs.Heaps.{alloc_answer, checked as heap_checked}
use Rattle.object_meaning.specs.Accesses.{cell_named}
use Rattle.object_meaning.specs.Comparisons.{bit}
use Rattle.object_meaning.specs.Effects.{Effect, goes_on, prints, ends}
use Rattle.object_meaning.specs.Lines.{Line}
use Rattle.object_meaning.specs.Calls.{entering, function_in, stepped, taking}
use Rattle.object_meaning.specs.Registers.{nothing, number_in, operand, value}
use Rattle.object_meaning.specs.States.{Frame, State}
use Rattle.object_meaning.specs.Tasks.{started, with_event}
use Rattle.machine_meaning.specs.Machines.{Machine, Machinery, address_behind, gone_on, lifted}
use Rattle.machine_meaning.specs.MachineTasks.{allocated_machine, allocating_machine, ended_machine, handed_machine, polled_machine, pushed, switched_machine}
use Rattle.machine_meaning.specs.MachineSteps.{at, calls, checking, denied, returns}
use Rattle.runs_unseen.proofs.machine_ends.EffectLaws.{LeadsOn, Leads, Fares, IsSwitched, counts_entering, fares_eventful, fares_lifted, fares_then, gone_leads, leads_input, leads_started, leads_stepped, switched_same, switched_then, switches}

pub fares_denied : (bound : ℕ) (state : State) (machine : Machine) (deny : Deny) → Fares bound state (denied machine deny)
fares_denied bound state machine denies.Null = tt
fares_denied bound state machine denies.Bounds = tt
fares_denied bound state machine denies.Kind = tt
fares_denied bound state machine denies.Poison = tt

fares_checking : (bound : ℕ) (machine : Machine) (found : Result (Unit {0}) Deny) → Fares bound machine.state (checking machine found)
fares_checking bound machine (Ok done) = gone_leads bound machine.state machine.state machine.stack nothing (switched_same machine.state)
fares_checking bound machine (Err deny) = fares_denied bound machine.state machine deny

fares_allocated : (bound : ℕ) (state : State) (machine : Machine) (layout : ℕ) (fields : List Cell) (count : ℕ) (answer : Result ℕ AllocFault) → IsSwitched state machine.state
    → Fares bound state (allocated_machine machine layout fields count answer)
fares_allocated bound state machine layout fields count (Ok address) switch = gone_leads bound state machine.state machine.stack (number address) switch
fares_allocated bound state machine layout fields count (Err faults.Count) switch = tt
fares_allocated bound state machine layout fields count (Err faults.Full) switch = tt
fares_allocated bound state machine layout fields count (Err faults.Memory) switch = tt

with_event_same : (state : State) → IsSwitched state (with_event state)
with_event_same state = record { steps = refl; tasks = refl; left = omega arith }

abbrev switched_by : Machine → Option ℕ → Machine
switched_by machine go = option_map_or (λ to. switched_machine machine to (slice_get machine.state.tasks to)) go machine

fares_polled : (machinery : Machinery) (bound : ℕ) (state : State) (machine : Machine) → IsSwitched state machine.state → LeadsOn bound state (polled_machine machinery machine).state
fares_polled machinery bound state machine switch = by (machinery.setting.go machine.state.events)
  where
    by : (go : Option ℕ) → LeadsOn bound state (gone_on nothing (switched_by machine go)).state
    by go =
        gone_leads bound state (switched_by machine go).state (switched_by machine go).stack nothing
        (switched_then state machine.state (switched_by machine go).state switch (switches machine go))

leads_taking : (bound : ℕ) (machine : Machine) (input : List ℤ) → Leads bound machine.state (taking machine.state (λ answer. (gone_on answer machine).state) input)
leads_taking bound machine [] = tt
leads_taking bound machine (first ∷ rest) =
    let answer = number (cast_unsigned w64 first) in
    leads_input bound machine.state (gone_on answer machine).state rest (gone_leads bound machine.state machine.state machine.stack answer (switched_same machine.state))

pub fares_calls : (machinery : Machinery) (machine : Machine) (line : Line) (rest : List Line) (callee : Callee) (operands : List Operand)
    → Fares machinery.setting.bound machine.state (calls machinery machine line rest callee operands)
fares_calls machinery machine line rest (Fun func) operands =
    let setting = machinery.setting in
    let arguments = map (value machine.state.running.registers) operands in
    fares_then setting.bound machine.state (pushed machinery func.0 (address_behind machinery machine.state.running line rest))
    (lifted machine (stepped setting machine.state (entering setting func.0 arguments))) (λ now. refl)
    (fares_lifted setting.bound machine.state machine (stepped setting machine.state (entering setting func.0 arguments))
    (leads_stepped setting machine.state (entering setting func.0 arguments)
    (counts_entering setting (record machine.state { steps = machine.state.steps + 1 }) func.0 arguments)))
fares_calls machinery machine line rest (New layout) operands =
    fares_eventful machinery.setting.bound machine.state machinery
    (λ now. allocating_machine now layout (fields_in machinery.setting.layouts layout) (signed 64 (number_in (operand now.state.running.registers operands 0))))
    (λ now switch.
    fares_allocated machinery.setting.bound machine.state now layout (fields_in machinery.setting.layouts layout)
    (unsigned_abs (signed 64 (number_in (operand now.state.running.registers operands 0))))
    (alloc_answer now.heap (fields_in machinery.setting.layouts layout) (signed 64 (number_in (operand now.state.running.registers operands 0)))) switch)
    machine (with_event_same machine.state)
fares_calls machinery machine line rest Poll operands =
    fares_eventful machinery.setting.bound machine.state machinery (λ now. goes_on (polled_machine machinery now))
    (λ now switch. fares_polled machinery machinery.setting.bound machine.state now switch) machine (with_event_same machine.state)
fares_calls machinery machine line rest TaskStart operands =
    let func = function_in (slice_get operands 0) in
    let argument = operand machine.state.running.registers operands 1 in
    let effect = started machinery.setting machine.state func argument in
    fares_then machinery.setting.bound machine.state _ (lifted machine effect) (λ now. refl)
    (fares_lifted machinery.setting.bound machine.state machine effect (leads_started machinery.setting machine.state func argument))
fares_calls machinery machine line rest Check operands =
    fares_checking machinery.setting.bound machine (heap_checked machine.heap (at machine line 0) (at machine line 1) (cell_named (at machine line 2)))
fares_calls machinery machine line rest Same operands =
    gone_leads machinery.setting.bound machine.state machine.state machine.stack
    (number (bit ((at machine line 0 == at machine line 2) && (at machine line 1 == at machine line 3)))) (switched_same machine.state)
fares_calls machinery machine line rest Print operands =
    gone_leads machinery.setting.bound machine.state machine.state machine.stack nothing (switched_same machine.state)
fares_calls machinery machine line rest Read operands =
    fares_lifted machinery.setting.bound machine.state machine (taking machine.state (λ answer. (gone_on answer machine).state) machine.state.input)
    (leads_taking machinery.setting.bound machine machine.state.input)

-- ---- `ret`

-- what follows a step that was counted
abbrev pub CountsOn : ℕ → Effect Machine → Type 0
CountsOn steps (goes_on next) = next.state.steps ≡ steps
CountsOn steps (prints word next) = next.state.steps ≡ steps
CountsOn steps (ends end last) = Unit {0}

counts_handed : (machine : Machine) (frames : Option (List Frame)) → CountsOn machine.state.steps (handed_machine machine frames)
counts_handed machine (Some (frame ∷ below)) = refl
counts_handed machine (Some []) = tt
counts_handed machine None = tt

counts_ended : (machine : Machine) (width : ℕ) (answer : Datum) → CountsOn machine.state.steps (ended_machine machine width answer)
counts_ended machine width answer = by (machine.state.task == 0)
  where
    by : (b : Bool) → CountsOn machine.state.steps (if b then ends (ended.Return (signed width (number_in answer))) machine else handed_machine machine (slice_get machine.state.tasks 0))
    by true = tt
    by false = counts_handed machine (slice_get machine.state.tasks 0)

pub counts_returns : (machinery : Machinery) (machine : Machine) (width : ℕ) (answer : Datum) (below : List Frame) → CountsOn machine.state.steps (returns machinery machine width answer below)
counts_returns machinery machine width answer [] = counts_ended machine width answer
counts_returns machinery machine width answer (caller ∷ below) = refl
