-- Events that are foreseen.
use Rattle.std.proofs.Common.{◌≡◌, ◌≢◌, ℕ, ◌+◌, ◌<◌, ◌≤◌, Bool, true, false, List, [], ◌∷◌, ◌++◌, length, map, set, take, drop, get_or, refl, sym, ap, ◌∙◌, arith, append_assoc, append-nil}
use Rattle.std.specs.Prelude.{if◌then◌else◌, Option, Result, Ok, Err, unsigned_abs}
use Rattle.std.specs.List.{filter_map, flat_map}
use Rattle.std.specs.Result.{OnOk}
use Rattle.std.proofs.lemmas.List.{drop_all, drop_at, drop_more, length-map, length-set, get_or-map, get_or-set_other, get_or-set_same}
use Rattle.sp_ids.specs.Numbers.{signed}
use Rattle.ir_ast.specs.declared.ops.Callee.{Callee}
use Rattle.ir_ast.specs.declared.ops.Callee.TheVariants as callees
use Rattle.ir_ast.specs.declared.ops.Op.{Op}
use Rattle.ir_ast.specs.declared.ops.Op.TheVariants as ops
use Rattle.ir_ast.specs.declared.types.Ty.{Ty}
use Rattle.ir_ast.specs.declared.cells.Cell.{Cell}
use Rattle.ir_ast.specs.Insts.{Instruction}
use Rattle.ir_ast.specs.Sizes.{fields_in}
use Rattle.moving_heap.specs.declared.heap.AllocFault.{AllocFault}
use Rattle.moving_heap.specs.declared.heap.AllocFault.TheVariants as alloc_faults
use Rattle.moving_heap.specs.declared.stands.Moved.{Moved}
use Rattle.moving_heap.specs.declared.stands.Stand.{Stand}
use Rattle.moving_heap.specs.Heaps.{alloc_answer}
use Rattle.object_meaning.specs.Effects.{Effect, goes_on}
use Rattle.object_meaning.specs.Lines.{Line}
use Rattle.object_meaning.specs.Registers.{number_in, operand}
use Rattle.object_meaning.specs.States.{Frame}
use Rattle.object_meaning.specs.Tasks.{with_event}
use Rattle.object_meaning.specs.Traces.{at_new, at_poll}
use Rattle.machine_meaning.specs.Happenings.{Happening as Happened, ObjectMove as Move, SlotChange as Change, changes_by_task, happening, happening_by, happenings_at, object_move, shown_changes, slot_changes, task_changes}
use Rattle.machine_meaning.specs.Machines.{Machine, Machinery, all_frames, all_stacks, kept_words, over, spilled}
use Rattle.machine_meaning.specs.MachineSteps.{calls, machine_acts, machine_at, machine_step}
use Rattle.machine_meaning.specs.MachineTasks.{allocated_machine, allocating_machine, polled_machine}
use Rattle.machine_meaning.specs.Moving.{after_walk, moved_by, moves_due, verdict_at, walked_all}
use Rattle.machine_frames.specs.declared.tasks.Task.{Task}
use Rattle.machine_frames.specs.Frames.{frames_of}
use Rattle.run_texts.specs.RunTexts.{event_lines, trace_lines}
use Rattle.run_traces.specs.declared.happenings.Happening.{Happening}
use Rattle.run_traces.specs.Changes.{change_of}
use Rattle.run_traces.specs.Happenings.{happened, happened_lines, kind_of, move_of}
use Rattle.ir_machine.specs.Executors.{kept, waiting}
use Rattle.ir_machine.specs.Traces.{CallForeseen, IsForeseen, StepForeseen, foreseen, is_lost, shown_lines, slots_due}

-- ---- slots of all tasks

module _ (machinery : Machinery) (moves : List Moved) (tasks : List (Option Task)) (task : ℕ) (run : Task) where
  abbrev pub frames : List (List Frame)
  frames = set (map waiting tasks) task (frames_of run)

  abbrev pub stacks : List (List ℕ)
  stacks = set (map kept tasks) task run.stack

  many_frames : length frames ≡ length tasks
  many_frames = length-set (map waiting tasks) task (frames_of run) ∙ length-map tasks waiting

  many_stacks : length stacks ≡ length tasks
  many_stacks = length-set (map kept tasks) task run.stack ∙ length-map tasks kept

  module _ (place : ℕ) (within : place < length tasks) (items new all : List Change)
      (so_far : items ++ changes_by_task machinery moves place (drop place frames) (drop place stacks) ≡ all) where
    one_more : (here : List Frame) (words : List ℕ) → get_or frames place [] ≡ here → get_or stacks place [] ≡ words → new ≡ items ++ task_changes machinery moves place here words
        → new ++ changes_by_task machinery moves (place + 1) (drop (place + 1) frames) (drop (place + 1) stacks) ≡ all
    one_more here words frames_are words_are added =
        let f = drop_more frames place [] (omega (arith, many_frames, within)) ∙ ap (λ (first : List Frame). first ∷ drop (place + 1) frames) frames_are in
        let s = drop_more stacks place [] (omega (arith, many_stacks, within)) ∙ ap (λ (first : List ℕ). first ∷ drop (place + 1) stacks) words_are in
        let rest = changes_by_task machinery moves (place + 1) (drop (place + 1) frames) (drop (place + 1) stacks) in
        ap (λ (l : List Change). l ++ rest) added ∙ append_assoc items (task_changes machinery moves place here words) rest
        ∙ ap (λ (fs : List (List Frame)). items ++ changes_by_task machinery moves place fs ((words ∷ drop (place + 1) stacks))) (sym f)
        ∙ ap (λ (ss : List (List ℕ)). items ++ changes_by_task machinery moves place (drop place frames) ss) (sym s)
        ∙ so_far

    pub own_more : place ≡ task → new ≡ items ++ task_changes machinery moves place (frames_of run) run.stack
        → new ++ changes_by_task machinery moves (place + 1) (drop (place + 1) frames) (drop (place + 1) stacks) ≡ all
    own_more is added =
        one_more (frames_of run) run.stack
        (ap (λ (i : ℕ). get_or frames i []) is ∙ get_or-set_same (map waiting tasks) task (frames_of run) [] (omega (arith, is, within, length-map tasks waiting)))
        (ap (λ (i : ℕ). get_or stacks i []) is ∙ get_or-set_same (map kept tasks) task run.stack [] (omega (arith, is, within, length-map tasks kept))) added

    pub other_more : place ≢ task → (one : Option Task) → one ≡ get_or tasks place one → new ≡ items ++ task_changes machinery moves place (waiting one) (kept one)
        → new ++ changes_by_task machinery moves (place + 1) (drop (place + 1) frames) (drop (place + 1) stacks) ≡ all
    other_more differs one is added =
        one_more (waiting one) (kept one)
        (get_or-set_other (map waiting tasks) task place (frames_of run) [] differs ∙ (get_or-map waiting tasks place one [] within ∙ ap waiting (sym is)))
        (get_or-set_other (map kept tasks) task place run.stack [] differs ∙ (get_or-map kept tasks place one [] within ∙ ap kept (sym is))) added

  pub all_done : (place : ℕ) (items all : List Change) → length tasks ≤ place
      → items ++ changes_by_task machinery moves place (drop place frames) (drop place stacks) ≡ all → items ≡ all
  all_done place items all past so_far =
      sym (append-nil items)
      ∙ ap (λ (fs : List (List Frame)). items ++ changes_by_task machinery moves place fs (drop place stacks)) (sym (drop_all place frames (omega (arith, many_frames, past))))
      ∙ so_far

-- ---- frames that are lost

unless : (lost : Bool) → List Change → List Change
unless lost slots = if lost then [] else slots

-- what follows the moves of an event loses no frame
abbrev Keeps : (Machine → Effect Machine) → Type 0
Keeps next = (machine : Machine) → is_lost (next machine) ≡ false

shown_unless : (machinery : Machinery) (moves : List Moved) (machine now : Machine) (next : Machine → Effect Machine) (walk : Result (List (List ℕ)) ℕ) → Keeps next
    → shown_changes machinery moves machine walk ≡ (if is_lost (after_walk moves now walk next) then [] else changes_by_task machinery moves 0 (all_frames machine) (all_stacks machine))
shown_unless machinery moves machine now next (Ok stacks) keeps = rw (keeps _) refl
shown_unless machinery moves machine now next (Err lost) keeps = refl

-- the machine, and it in its next event
slots_unless : (machinery : Machinery) (moves : List Moved) (machine : Machine) (next : Machine → Effect Machine) → Keeps next
    → slot_changes machinery moves machine
    ≡ (if is_lost (moved_by machinery moves (record machine { state = with_event machine.state }) next) then [] else slots_due machinery moves machine)
slots_unless machinery [] machine next keeps = rw (keeps (record machine { state = with_event machine.state })) refl
slots_unless machinery (move ∷ moves) machine next keeps =
    shown_unless machinery (move ∷ moves) machine (record machine { state = with_event machine.state }) next (walked_all machinery (move ∷ moves) machine) keeps

allocating_keeps : (machine : Machine) (layout : ℕ) (fields : List Cell) (count : ℕ) (answer : Result ℕ AllocFault) → is_lost (allocated_machine machine layout fields count answer) ≡ false
allocating_keeps machine layout fields count (Ok address) = refl
allocating_keeps machine layout fields count (Err alloc_faults.Count) = refl
allocating_keeps machine layout fields count (Err alloc_faults.Full) = refl
allocating_keeps machine layout fields count (Err alloc_faults.Memory) = refl

-- the event as it is shown, and as it was foreseen
module _ (machinery : Machinery) (machine : Machine) (poll : Bool) (one : Happening) (is : IsForeseen machinery machine poll one) where
  abbrev due : List Moved
  due = moves_due machinery machine.heap (with_event machine.state).events

  shown_so : (lost : Bool) → slot_changes machinery due machine ≡ (if lost then [] else slots_due machinery due machine)
      → event_lines (with_event machine.state).events (happening machinery machine (kind_of poll)) ≡ happened_lines lost one
  shown_so lost gated =
      ap (λ (slots : List Change). event_lines (with_event machine.state).events (record (foreseen machinery machine (kind_of poll)) { slots = slots })) gated
      ∙ (by lost ∙ ap (λ (number : ℕ). event_lines number (happened lost one)) (sym is.number))
    where
      by : (lost : Bool) → event_lines (with_event machine.state).events (record (foreseen machinery machine (kind_of poll)) { slots = if lost then [] else slots_due machinery due machine })
          ≡ event_lines (with_event machine.state).events (happened lost one)
      by true = ap (λ (h : Happened). event_lines (with_event machine.state).events (record h { slots = [] })) (sym is.happened_so)
      by false = ap (event_lines (with_event machine.state).events) (sym is.happened_so)

-- ---- what a statepoint keeps

over_twice : (words stack : List ℕ) → over words (over words stack) ≡ over words stack
over_twice words stack = ap (λ rest. words ++ rest) (drop_at words (drop (length words) stack) (length words) refl)

pub spilled_twice : (machine : Machine) (call : Instruction) (arguments : ℕ) → spilled (spilled machine call arguments) call arguments ≡ spilled machine call arguments
spilled_twice machine call arguments = ap (λ (stack : List ℕ). record machine { stack = stack }) (over_twice (kept_words machine.state call arguments) machine.stack)

-- ---- nothing moves

pub none_move : (stands : List Stand) → filter_map (object_move []) stands ≡ []
none_move [] = refl
none_move (stand ∷ stands) = none_move stands

-- ---- what is foreseen

module _ (machinery : Machinery) (machine : Machine) (poll : Bool) (one : Happening) (events : ℕ) (moves : List Moved) (events_are : events ≡ (with_event machine.state).events)
    (number : one.number ≡ events) (poll_is : one.poll ≡ poll) (verdict_is : one.verdict ≡ verdict_at machinery machine.heap events) (moves_are : moves ≡ moves_due machinery machine.heap events)
    (objects : map move_of one.moves.items ≡ filter_map (object_move moves) machine.heap.stands) (slots : map change_of one.slots.items ≡ slots_due machinery moves machine) where
  pub foreseen_so : IsForeseen machinery machine poll one
  foreseen_so = record {
    number = number ∙ events_are;
    happened_so =
        ap (λ (p : Bool). let h : Happened = record { event = kind_of p; verdict = one.verdict; moves = map move_of one.moves.items; slots = map change_of one.slots.items } in h) poll_is
        ∙ ap (λ v. let h : Happened = record { event = kind_of poll; verdict = v; moves = map move_of one.moves.items; slots = map change_of one.slots.items } in h) verdict_is
        ∙ ap (λ (ms : List Move). let h : Happened = record { event = kind_of poll; verdict = verdict_at machinery machine.heap events; moves = ms; slots = map change_of one.slots.items } in h) objects
        ∙ ap (λ (cs : List Change). let h : Happened = record { event = kind_of poll; verdict = verdict_at machinery machine.heap events; moves = filter_map (object_move moves) machine.heap.stands; slots = cs } in h) slots
        ∙ ap (λ (ms : List Moved). let h : Happened = record { event = kind_of poll; verdict = verdict_at machinery machine.heap events; moves = filter_map (object_move ms) machine.heap.stands; slots = slots_due machinery ms machine } in h) moves_are
        ∙ ap (λ (n : ℕ). let h : Happened = record { event = kind_of poll; verdict = verdict_at machinery machine.heap n; moves = filter_map (object_move (moves_due machinery machine.heap n)) machine.heap.stands; slots = slots_due machinery (moves_due machinery machine.heap n) machine } in h) events_are;
  }

pub some_due : (machinery : Machinery) (moves : List Moved) (machine : Machine) → (moves ≡ [] → ⊥) → slots_due machinery moves machine ≡ changes_by_task machinery moves 0 (all_frames machine) (all_stacks machine)
some_due machinery [] machine some = absurd (some refl)
some_due machinery (move ∷ moves) machine some = refl

-- ---- lines

step_at : (machinery : Machinery) (machine : Machine) (line : Line) (rest : List Line) (op : Op) → machine.state.running.rest ≡ line ∷ rest → line.inst.op ≡ op
    → machine_step machinery machine ≡ machine_acts machinery machine line rest op
unfolding machine_step
step_at machinery machine line rest op is op_is = ap (machine_at machinery machine) is ∙ ap (machine_acts machinery machine line rest) op_is

trace_at : (machinery : Machinery) (machine : Machine) (line : Line) (rest : List Line) (op : Op) → machine.state.running.rest ≡ line ∷ rest → line.inst.op ≡ op
    → trace_lines machinery machine ≡ flat_map (event_lines (with_event machine.state).events) (happening_by machinery machine line op)
trace_at machinery machine line rest op is op_is =
    ap (λ (lines : List Line). flat_map (event_lines (with_event machine.state).events) (happenings_at machinery machine lines)) is
    ∙ ap (λ (o : Op). flat_map (event_lines (with_event machine.state).events) (happening_by machinery machine line o)) op_is

module _ (machinery : Machinery) (machine : Machine) (line : Line) (rest : List Line) (is : machine.state.running.rest ≡ line ∷ rest) (callee : Callee) (types : List Ty) where
  pub call_foreseen : line.inst.op ≡ ops.Call callee types → (event : Bool) (one : Happening) → CallForeseen machinery machine callee event one → StepForeseen machinery true machine event one
  call_foreseen op_is event one foreseen =
      trace_at machinery machine line rest (ops.Call callee types) is op_is
      ∙ (foreseen line rest line.inst.operands
      ∙ ap (λ (effect : Effect Machine). shown_lines event (is_lost effect) one) (sym (step_at machinery machine line rest (ops.Call callee types) is op_is)))

  module _ (id : ℕ) (op_is : line.inst.op ≡ ops.Statepoint id callee types) where
    pub statepoint_foreseen : (event : Bool) (one : Happening) → CallForeseen machinery (spilled machine line.inst (length types)) callee event one → StepForeseen machinery true machine event one
    statepoint_foreseen event one foreseen =
        trace_at machinery machine line rest (ops.Statepoint id callee types) is op_is
        ∙ (foreseen line rest (take (length types) line.inst.operands)
        ∙ ap (λ (effect : Effect Machine). shown_lines event (is_lost effect) one) (sym (step_at machinery machine line rest (ops.Statepoint id callee types) is op_is)))

    pub spilled_step : machine_step machinery (spilled machine line.inst (length types)) ≡ machine_step machinery machine
    spilled_step =
        step_at machinery (spilled machine line.inst (length types)) line rest (ops.Statepoint id callee types) is op_is
        ∙ (ap (λ (m : Machine). calls machinery m line rest callee (take (length types) line.inst.operands)) (spilled_twice machine line.inst (length types))
        ∙ sym (step_at machinery machine line rest (ops.Statepoint id callee types) is op_is))

-- what holds whatever a call answered
pub OnOk-holds : {T E P : Type 0} (result : Result T E) → P → OnOk result P
OnOk-holds (Ok value) p = p
OnOk-holds (Err fault) p = tt
