-- What one step does to objects and to the count of events.
use Rattle.std.proofs.Common.{◌≡◌, ℕ, zero, suc, ◌+◌, ◌-◌, ◌*◌, ◌/◌, ◌%◌, ◌≤◌, Bool, true, false, List, [], ◌∷◌, ◌++◌, length, refl, sym, ap, subst, ◌∙◌, cond, Option, Some, None, Result, Ok, Err, ℤ, pos, arith}
use Rattle.std.specs.Prelude.{drop, take, int_lt, max, nat_lt, slice_get, slice_set, unsigned_abs}
use Rattle.std.specs.Option.{option_map_or}
use Rattle.std.specs.List.{sum, sum_by}
use Rattle.std.proofs.Math.Nat.{mul-mod_left}
use Rattle.std.proofs.lemmas.Bool.{ltb-false}
use Rattle.std.proofs.lemmas.List.{map-append}
use Rattle.std.proofs.lemmas.List.Sums.{sum-map}
use Rattle.std.proofs.lemmas.Option.{get_or_from_slice_get}
use Rattle.std.proofs.Math.Seq.{map-set_same}
use Rattle.tool_io.specs.Counts.{raised}
use Rattle.sp_ids.specs.declared.ends.End.{End}
use Rattle.sp_ids.specs.declared.ends.End.TheVariants.{OutOfSteps, Trap as Traps}
use Rattle.sp_ids.specs.declared.ends.Trap.{Trap}
use Rattle.sp_ids.specs.declared.ends.Trap.TheVariants.{Count, Depth, Full, Tasks, Unreachable as Executed}
use Rattle.sp_ids.specs.Numbers.{signed}
use Rattle.ir_ast.specs.declared.ops.Callee.{Callee}
use Rattle.ir_ast.specs.declared.ops.Callee.TheVariants.{Fun, New, Print, Read, TaskStart, Poll, Check, Same}
use Rattle.ir_ast.specs.declared.ops.Op.{Op}
use Rattle.ir_ast.specs.declared.ops.Op.TheVariants.{Load, Store, Call, Statepoint, Ret, Phi, GcResult, GcRelocate, Br, CondBr, Switch, Unreachable}
use Rattle.ir_ast.specs.declared.ops.Operand.{Operand}
use Rattle.ir_ast.specs.Layouts.{ObjectLayout}
use Rattle.ir_ast.specs.Objects.{Datum, pointer, Object, byte_count, footprint}
use Rattle.object_meaning.specs.Accesses.{Place, stored}
use Rattle.object_meaning.specs.Calls.{allocated, allocating, called, checked, entering, made, stepped, taking}
use Rattle.object_meaning.specs.Computing.{value_of_line}
use Rattle.object_meaning.specs.Effects.{Effect, goes_on, prints, ends}
use Rattle.object_meaning.specs.Frames.{entered, grouped, passed}
use Rattle.object_meaning.specs.Jumps.{branch_taken, case_taken, jumped, label_at}
use Rattle.object_meaning.specs.Lines.{Line}
use Rattle.object_meaning.specs.Numbers.{width_of}
use Rattle.object_meaning.specs.Registers.{number_in, operand}
use Rattle.object_meaning.specs.States.{Frame, State, Setting}
use Rattle.object_meaning.specs.Steps.{acts, loading, returned, settled, step, steps_at, storing}
use Rattle.object_meaning.specs.Tasks.{handed_over, started, switched, switched_to, with_event}
use Rattle.object_meaning.specs.Traces.{Event, at_poll, at_new, event_at, event_of, events_at}
use Rattle.object_meaning.specs.Outcomes.{sizes_in}
use Rattle.made_objects.specs.Packed.{IsFootprint}

-- ---- what a step tells

-- objects keep their footprints, and the events their count
pub record Stays (layouts : List ObjectLayout) (before now : State) : Type 0 where
  pub sizes : sizes_in layouts now.objects ≡ sizes_in layouts before.objects
  pub events : now.events ≡ before.events

-- one event has come
pub record Comes (layouts : List ObjectLayout) (before now : State) : Type 0 where
  pub sizes : sizes_in layouts now.objects ≡ sizes_in layouts before.objects
  pub events : now.events ≡ raised before.events

-- an event has come, and an object was made
pub record Gains (layouts : List ObjectLayout) (before now : State) (size : ℕ) : Type 0 where
  pub sizes : sizes_in layouts now.objects ≡ sizes_in layouts before.objects ++ size ∷ []
  pub events : now.events ≡ raised before.events
  pub whole : IsFootprint size
  pub within : sum (sizes_in layouts now.objects) ≤ 67108864

-- the events of the line at which a state stood
abbrev pub GoesOn : List ObjectLayout → State → List Event → State → Type 0
GoesOn layouts before [] now = Stays layouts before now
GoesOn layouts before (at_poll ∷ rest) now = Comes layouts before now × (rest ≡ [])
GoesOn layouts before (at_new ∷ rest) now = (size : ℕ) × Gains layouts before now size × (rest ≡ [])

-- a run ends before an event, or where a new object isn't made
abbrev pub EndsAt : List ObjectLayout → State → List Event → State → Type 0
EndsAt layouts before [] last = Stays layouts before last
EndsAt layouts before (at_poll ∷ rest) last = ⊥
EndsAt layouts before (at_new ∷ rest) last = Comes layouts before last × (rest ≡ [])

abbrev pub Tells : List ObjectLayout → State → List Event → Effect State → Type 0
Tells layouts before events (goes_on now) = GoesOn layouts before events now
Tells layouts before events (prints word now) = GoesOn layouts before events now
Tells layouts before events (ends end last) = EndsAt layouts before events last

-- ---- lines of which no event is

stays_here : (layouts : List ObjectLayout) (state : State) → Stays layouts state state
stays_here layouts state = record { sizes = refl; events = refl }

tells_if : (layouts : List ObjectLayout) (before : State) (events : List Event) (test : Bool) (one other : Effect State) → (test ≡ true → Tells layouts before events one)
    → (test ≡ false → Tells layouts before events other) → Tells layouts before events (cond test one other)
tells_if layouts before events true one other first second = first refl
tells_if layouts before events false one other first second = second refl

-- a step is counted first
stepped_tells : (setting : Setting) (state : State) (next : State → Effect State) → Tells setting.layouts state [] (next (record state { steps = state.steps + 1 }))
    → Tells setting.layouts state [] (stepped setting state next)
stepped_tells setting state next tells =
    tells_if setting.layouts state [] (nat_lt state.steps setting.bound) (next (record state { steps = state.steps + 1 })) (ends OutOfSteps state)
    (λ test. tells) (λ test. stays_here setting.layouts state)

entering_tells : (setting : Setting) (func : ℕ) (arguments : List Datum) (before state : State) → Stays setting.layouts before state
    → Tells setting.layouts before [] (entering setting func arguments state)
entering_tells setting func arguments before state stays =
    tells_if setting.layouts before [] (nat_lt (length state.below + 1) 4096)
    (goes_on (record state { running = entered setting func arguments; below = state.running ∷ state.below })) (ends (Traps Depth) state)
    (λ test. record { sizes = stays.sizes; events = stays.events }) (λ test. stays)

started_tells : (setting : Setting) (state : State) (func : ℕ) (argument : Datum) → Tells setting.layouts state [] (started setting state func argument)
started_tells setting state func argument =
    let now : State = record state {
      running = entered setting func (argument ∷ []);
      below = [];
      task = length state.tasks;
      tasks = slice_set state.tasks state.task (state.running ∷ state.below) ++ [] ∷ [];
    } in
    tells_if setting.layouts state [] (nat_lt (length state.tasks) 64) (goes_on now) (ends (Traps Tasks) state)
    (λ test. record { sizes = refl; events = refl }) (λ test. stays_here setting.layouts state)

settled_tells : (layouts : List ObjectLayout) (state : State) (line : Line) (rest : List Line) (result : Result Datum Trap) → Tells layouts state [] (settled state line rest result)
settled_tells layouts state line rest (Ok datum) = record { sizes = refl; events = refl }
settled_tells layouts state line rest (Err trap) = stays_here layouts state

loading_tells : (layouts : List ObjectLayout) (state : State) (line : Line) (rest : List Line) (found : Result Place Trap) → Tells layouts state [] (loading state line rest found)
loading_tells layouts state line rest (Ok place) = record { sizes = refl; events = refl }
loading_tells layouts state line rest (Err trap) = stays_here layouts state

sizes_set : (layouts : List ObjectLayout) (objects : List Object) (at : ℕ) (one other : Object) → slice_get objects at ≡ Some one
    → footprint layouts other ≡ footprint layouts one → sizes_in layouts (slice_set objects at other) ≡ sizes_in layouts objects
sizes_set layouts objects at one other there same =
    map-set_same (footprint layouts) objects at other one (same ∙ ap (footprint layouts) (sym (get_or_from_slice_get objects at one one there)))

-- a store changes a cell, and no footprint
abbrev stored_at : List Object → Place → Datum → Option Object → List Object
stored_at objects place datum found =
    option_map_or (λ object. slice_set objects (place.object - 1) (record object { cells = slice_set object.cells place.cell datum })) found objects

sizes_stored_at : (layouts : List ObjectLayout) (objects : List Object) (place : Place) (datum : Datum) (found : Option Object) → slice_get objects (place.object - 1) ≡ found
    → sizes_in layouts (stored_at objects place datum found) ≡ sizes_in layouts objects
sizes_stored_at layouts objects place datum None there = refl
sizes_stored_at layouts objects place datum (Some object) there =
    sizes_set layouts objects (place.object - 1) object (record object { cells = slice_set object.cells place.cell datum }) there refl

pub sizes_stored : (layouts : List ObjectLayout) (objects : List Object) (place : Place) (datum : Datum) → sizes_in layouts (stored objects place datum) ≡ sizes_in layouts objects
sizes_stored layouts objects place datum = sizes_stored_at layouts objects place datum (slice_get objects (place.object - 1)) refl

storing_tells : (layouts : List ObjectLayout) (state : State) (line : Line) (rest : List Line) (datum : Datum) (found : Result Place Trap)
    → Tells layouts state [] (storing state line rest datum found)
storing_tells layouts state line rest datum (Ok place) = record { sizes = sizes_stored layouts state.objects place datum; events = refl }
storing_tells layouts state line rest datum (Err trap) = stays_here layouts state

handed_tells : (layouts : List ObjectLayout) (before state : State) (frames : Option (List Frame)) → Stays layouts before state → Tells layouts before [] (handed_over state frames)
handed_tells layouts before state (Some (frame ∷ below)) stays = record { sizes = stays.sizes; events = stays.events }
handed_tells layouts before state (Some []) stays = stays
handed_tells layouts before state None stays = stays

ended_tells : (layouts : List ObjectLayout) (before state : State) (first : Bool) (end : End) → Stays layouts before state
    → Tells layouts before [] (cond first (ends end state) (handed_over state (slice_get state.tasks 0)))
ended_tells layouts before state true end stays = stays
ended_tells layouts before state false end stays = handed_tells layouts before state (slice_get state.tasks 0) stays

returned_tells : (layouts : List ObjectLayout) (before state : State) (width : ℕ) (answer : Datum) (frames : List Frame) → Stays layouts before state
    → Tells layouts before [] (returned width answer frames state)
returned_tells layouts before state width answer [] stays = ended_tells layouts before state _ _ stays
returned_tells layouts before state width answer (caller ∷ below) stays = record { sizes = stays.sizes; events = stays.events }

-- ---- events

switched_same : (layouts : List ObjectLayout) (state : State) (to : ℕ) (frames : Option (List Frame)) → Stays layouts state (switched_to state to frames)
switched_same layouts state to (Some (frame ∷ below)) = record { sizes = refl; events = refl }
switched_same layouts state to (Some []) = stays_here layouts state
switched_same layouts state to None = stays_here layouts state

polled_tells : (setting : Setting) (state : State) (go : Option ℕ) → Stays setting.layouts (with_event state) (option_map_or (switched (with_event state)) go (with_event state))
polled_tells setting state None = stays_here setting.layouts (with_event state)
polled_tells setting state (Some to) = switched_same setting.layouts (with_event state) to (slice_get state.tasks to)

-- a footprint is a whole number of granules, and some
granules_whole : (granules : ℕ) → max 8 (granules * 8) % 8 ≡ 0
granules_whole zero = refl
granules_whole (suc granules) = ap (λ (bytes : ℕ). bytes % 8) (omega arith) ∙ mul-mod_left (suc granules) 8

footprint_whole : (layouts : List ObjectLayout) (object : Object) → IsFootprint (footprint layouts object)
footprint_whole layouts object = (omega arith, granules_whole ((byte_count layouts object + 8 - 1) / 8))

-- the state that has the answer has the objects that stood before
abbrev Answers : State → (Datum → State) → Type 0
Answers state done = (datum : Datum) → ((done datum).objects ≡ state.objects) × ((done datum).events ≡ state.events)

allocated_tells : (setting : Setting) (state : State) (done : Datum → State) (object : Object) → Answers state done
    → Tells setting.layouts state (at_new ∷ []) (allocated setting state done object)
allocated_tells setting state done object same =
    let bytes = sum_by (footprint setting.layouts) (state.objects ++ object ∷ []) in
    let now : State = record (with_event (done (pointer (record { object = length state.objects + 1; offset = 0 })))) { objects = state.objects ++ object ∷ [] } in
    tells_if setting.layouts state (at_new ∷ []) (nat_lt 67108864 bytes) (ends (Traps Full) (with_event state)) (goes_on now)
    (λ test. (record { sizes = refl; events = refl }, refl))
    (λ test. (
      footprint setting.layouts object,
      record {
        sizes = map-append (footprint setting.layouts) state.objects (object ∷ []);
        events = ap raised (same (pointer (record { object = length state.objects + 1; offset = 0 }))).1;
        whole = footprint_whole setting.layouts object;
        within = subst (λ (all : ℕ). all ≤ 67108864) (sym (sum-map (footprint setting.layouts) (state.objects ++ object ∷ []))) (ltb-false 67108864 bytes test);
      },
      refl,
    ))

allocating_tells : (setting : Setting) (state : State) (done : Datum → State) (layout : ℕ) (count : ℤ) → Answers state done
    → Tells setting.layouts state (at_new ∷ []) (allocating setting state done layout count)
allocating_tells setting state done layout count same =
    tells_if setting.layouts state (at_new ∷ []) (int_lt count (pos 0)) (ends (Traps Count) (with_event state))
    (allocated setting state done (made setting.layouts layout (unsigned_abs count)))
    (λ test. (record { sizes = refl; events = refl }, refl)) (λ test. allocated_tells setting state done (made setting.layouts layout (unsigned_abs count)) same)

answer_tells : (layouts : List ObjectLayout) (state : State) (done : Datum → State) (datum : Datum) → Answers state done → Stays layouts state (done datum)
answer_tells layouts state done datum same = record { sizes = ap (sizes_in layouts) (same datum).0; events = (same datum).1 }

taking_tells : (layouts : List ObjectLayout) (state : State) (done : Datum → State) (input : List ℤ) → Answers state done → Tells layouts state [] (taking state done input)
taking_tells layouts state done [] same = stays_here layouts state
taking_tells layouts state done (first ∷ rest) same = record { sizes = ap (sizes_in layouts) (same _).0; events = (same _).1 }

checked_tells : (layouts : List ObjectLayout) (state : State) (done : Datum → State) (found : Result Place Trap) → Answers state done → Tells layouts state [] (checked state done found)
checked_tells layouts state done (Ok place) same = answer_tells layouts state done _ same
checked_tells layouts state done (Err trap) same = stays_here layouts state

called_tells : (setting : Setting) (state : State) (done : Datum → State) (callee : Callee) (operands : List Operand) → Answers state done
    → Tells setting.layouts state (event_at callee) (called setting state done callee operands)
called_tells setting state done (Fun func) operands same =
    stepped_tells setting state (entering setting func.0 _) (entering_tells setting func.0 _ state (record state { steps = state.steps + 1 }) (record { sizes = refl; events = refl }))
called_tells setting state done (New layout) operands same =
    allocating_tells setting state done layout (signed 64 (number_in (operand state.running.registers operands 0))) same
called_tells setting state done Print operands same = answer_tells setting.layouts state done _ same
called_tells setting state done Read operands same = taking_tells setting.layouts state done state.input same
called_tells setting state done TaskStart operands same = started_tells setting state _ _
called_tells setting state done Poll operands same =
    let stays = polled_tells setting state (setting.go (raised state.events)) in
    (record { sizes = stays.sizes; events = stays.events }, refl)
called_tells setting state done Check operands same = checked_tells setting.layouts state done _ same
called_tells setting state done Same operands same = answer_tells setting.layouts state done _ same

-- ---- lines

acts_tells : (setting : Setting) (state : State) (line : Line) (rest : List Line) (op : Op) → Tells setting.layouts state (event_of op) (acts setting state line rest op)
acts_tells setting state line rest Load = loading_tells setting.layouts state line rest _
acts_tells setting state line rest Store = storing_tells setting.layouts state line rest _ _
acts_tells setting state line rest (Call callee types) = called_tells setting state (passed state line rest) callee line.inst.operands (λ datum. (refl, refl))
acts_tells setting state line rest (Statepoint id callee types) =
    called_tells setting state (grouped state (drop (length types) line.inst.operands) rest) callee (take (length types) line.inst.operands) (λ datum. (refl, refl))
acts_tells setting state line rest Phi = record { sizes = refl; events = refl }
acts_tells setting state line rest GcResult = record { sizes = refl; events = refl }
acts_tells setting state line rest GcRelocate = record { sizes = refl; events = refl }
acts_tells setting state line rest Br = stepped_tells setting state (jumped setting (label_at line.inst.labels 0)) (record { sizes = refl; events = refl })
acts_tells setting state line rest CondBr =
    stepped_tells setting state (jumped setting (label_at line.inst.labels (branch_taken (operand state.running.registers line.inst.operands 0))))
    (record { sizes = refl; events = refl })
acts_tells setting state line rest Switch =
    stepped_tells setting state
    (jumped setting (label_at line.inst.labels (case_taken (operand state.running.registers line.inst.operands 0) (drop 1 line.inst.operands))))
    (record { sizes = refl; events = refl })
acts_tells setting state line rest Ret =
    stepped_tells setting state (returned (width_of line.inst.ty) (operand state.running.registers line.inst.operands 0) state.below)
    (returned_tells setting.layouts state (record state { steps = state.steps + 1 }) (width_of line.inst.ty) (operand state.running.registers line.inst.operands 0)
    state.below (record { sizes = refl; events = refl }))
acts_tells setting state line rest Unreachable = stepped_tells setting state (ends (Traps Executed)) (record { sizes = refl; events = refl })
acts_tells setting state line rest op = settled_tells setting.layouts state line rest (value_of_line setting.layouts state.running.registers op line.inst.ty line.inst.operands)

at_tells : (setting : Setting) (state : State) (lines : List Line) → Tells setting.layouts state (events_at lines) (steps_at setting state lines)
at_tells setting state [] = stays_here setting.layouts state
at_tells setting state (line ∷ rest) = acts_tells setting state line rest line.inst.op

-- what a step does is what its line does
pub step_tells : (setting : Setting) (state : State) → Tells setting.layouts state (events_at state.running.rest) (step setting state)
unfolding step
step_tells setting state = at_tells setting state state.running.rest
