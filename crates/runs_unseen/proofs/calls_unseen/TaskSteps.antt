-- A task that starts: the machine begins a stack with the frame that the target meaning enters, and the starting task waits.
use Rattle.std.proofs.Common.{◌≡◌, ℕ, zero, suc, ◌-◌, ◌<◌, Bool, true, false, List, [], ◌∷◌, ◌++◌, length, map, replicate, set, take, refl, sym, ap, ◌∙◌, subst, arith, ltb, Option, Some, None}
use Rattle.std.specs.Prelude.{slice_get, if◌then◌else◌}
use Rattle.std.specs.List.{AllZip, Contains}
use Rattle.std.proofs.lemmas.Bool.{true≢false}
use Rattle.std.proofs.lemmas.List.{length-set}
use Rattle.std.proofs.lemmas.List.Elements.{All-append, All-cons, All-nil, All-set}
use Rattle.std.proofs.lemmas.Option.{none-some, same_Some, slice_get_within}
use Rattle.list_laws.proofs.Places.{get_middle}
use Rattle.sp_ids.specs.declared.ends.End.TheVariants.{Trap as Trapped}
use Rattle.sp_ids.specs.declared.ends.Trap.TheVariants.{Tasks}
use Rattle.sp_ids.specs.declared.ids.FuncId.{FuncId}
use Rattle.ir_ast.specs.declared.ops.Callee.TheVariants.{TaskStart}
use Rattle.ir_ast.specs.declared.ops.Op.{Op}
use Rattle.ir_ast.specs.declared.ops.Op.TheVariants.{Statepoint}
use Rattle.ir_ast.specs.declared.ops.Operand.{Operand}
use Rattle.ir_ast.specs.declared.ops.Operand.TheVariants as operands
use Rattle.ir_ast.specs.declared.types.Ty.{Ty}
use Rattle.ir_ast.specs.declared.types.Ty.TheVariants.{Ptr, Void}
use Rattle.ir_ast.specs.Faults.TypeClash.{Fits, StartsTask}
use Rattle.ir_ast.specs.Modules.{ModuleContent}
use Rattle.ir_ast.specs.Objects.{Datum, number}
use Rattle.ir_ast.specs.Scope.{Signature, scope_of}
use Rattle.ir_ast.specs.Values.{value_types}
use Rattle.move_plan.specs.declared.plan_lines.PlanLine.{PlanLine}
use Rattle.move_plan.specs.Plans.{go}
use Rattle.object_meaning.specs.Calls.{function_in}
use Rattle.object_meaning.specs.Effects.{Effect, ends, goes_on}
use Rattle.object_meaning.specs.Frames.{entered}
use Rattle.object_meaning.specs.Lines.{Line, main_of}
use Rattle.object_meaning.specs.Registers.{operand, pointer_in, value}
use Rattle.object_meaning.specs.States.{Frame, Setting, State}
use Rattle.object_meaning.specs.Steps.{acts, step, steps_at}
use Rattle.object_meaning.specs.TargetRuns.{target_setting}
use Rattle.object_meaning.specs.Tasks.{started}
use Rattle.pair_facts.specs.Lines.{operand_at}
use Rattle.pair_facts.specs.Uses.{pointers_of}
use Rattle.stackmap_write.specs.ModuleMaps.{map_of}
use Rattle.machine_meaning.specs.Code.{machinery_of}
use Rattle.machine_meaning.specs.Machines.{Machine, Machinery, lifted, then_on}
use Rattle.machine_meaning.specs.MachineSteps.{calls, machine_acts, machine_at, machine_step}
use Rattle.machine_meaning.specs.MachineTasks.{new_frame, started_machine}
use Rattle.machine_meaning.specs.Relations.{word_in}
use Rattle.machine_meaning.specs.Words.{worded, worded_operand}
use Rattle.moves_unseen.specs.Awaits.{AreAwaiting, IsAwaiting, TasksAwait, WaitsFor, began, starts as awaits_start}
use Rattle.moves_unseen.specs.Entries.{AreArguments, entered_words}
use Rattle.moves_unseen.specs.Frames.{FrameWords, IsWaiting}
use Rattle.moves_unseen.specs.States.{Extra, IsRelated, machine_of, stacks_of, worded_frame, worded_tasks}
use Rattle.moves_unseen.specs.Steps.{StepFollows, both_end, both_go}
use Rattle.moves_unseen.specs.Waits.{IsSound, IsStatepointOf, TasksFollow, waits}
use Rattle.moves_unseen.specs.Waits.{StartsTask as StartsOne, starts}
use Rattle.moves_unseen.proofs.EntryLaws.{entered_words_are, frame_entered}
use Rattle.moves_unseen.proofs.ValueLaws.{base_of_pair, value_at}
use Rattle.moves_unseen.proofs.LastLaws.{last_waiting}
use Rattle.runs_unseen.specs.WaitingStates.{IsWaitingState, StatesWait, at_statepoint, frames_of_all, words_of_all}
use Rattle.runs_unseen.proofs.calls_unseen.Arguments.{first_taken, first_worded, second_taken, second_word}
use Rattle.runs_unseen.proofs.calls_unseen.StatepointLines.{IsDefinedAs, calls_by, defined_as, fits, own_passed}
use Rattle.runs_unseen.proofs.calls_unseen.TaskLists.{stacks_end, stacks_set, task_count, tasks_end, tasks_set}
use Rattle.list_laws.proofs.Zips.{zip_pushed}

-- the second of two operands, a pointer, is one that is passed
second_passed : (types more : List Ty) (given : List Operand) → AllZip (Fits types) given (Void ∷ Ptr ∷ more) → Contains (pointers_of (Void ∷ Ptr ∷ []) given) (operand_at given 1)
second_passed types more [] fit = absurd fit
second_passed types more (first ∷ []) fit = absurd fit.1
second_passed types more (first ∷ second ∷ given) fit = (0, (omega arith), refl)

-- task 0 began with `@main` also where the frames of the running task are put back
abbrev began_with : List Frame → ℕ
began_with [] = 0
began_with (first ∷ below) = began first.func below

began_with_main : (content : ModuleContent) (tasks : List (List Frame)) (at : ℕ) (first : Frame) (below : List Frame) (new : List (List Frame)) → slice_get tasks at ≡ Some []
    → (at ≡ 0 → began first.func below ≡ main_of content)
    → ((frame : Frame) (more : List Frame) → slice_get tasks 0 ≡ Some (frame ∷ more) → began frame.func more ≡ main_of content)
    → (frame : Frame) (more : List Frame) → slice_get (set tasks at (first ∷ below) ++ new) 0 ≡ Some (frame ∷ more) → began frame.func more ≡ main_of content
began_with_main content [] at first below new place runs waited frame more found = absurd (none-some [] place)
began_with_main content (task ∷ tasks) zero first below new place runs waited frame more found =
    ap began_with (sym (same_Some (first ∷ below) (frame ∷ more) found)) ∙ runs refl
began_with_main content (task ∷ tasks) (suc at) first below new place runs waited frame more found = waited frame more found

module _ (states_wait : StatesWait) (content : ModuleContent) (sound : IsSound content) (plan : List PlanLine) (bound : ℕ) (state : State) (extra : Extra)
    (related : IsRelated content state extra) (line : Line) (rest : List Line) (is : state.running.rest ≡ line ∷ rest)
    (id : ℕ) (op_is : line.inst.op ≡ Statepoint id TaskStart (Void ∷ Ptr ∷ [])) where
  abbrev machinery : Machinery
  machinery = machinery_of content (map_of content) plan bound

  abbrev setting : Setting
  setting = target_setting content (go plan) bound

  abbrev machine : Machine
  machine = machine_of machinery state extra

  -- the task that starts another waits
  waits_so : IsWaitingState content machinery state extra line 2
  waits_so = states_wait content sound machinery state extra related line rest is id TaskStart (Void ∷ Ptr ∷ []) op_is

  abbrev waiting : Extra
  waiting = at_statepoint extra line 2

  abbrev waiting_machine : Machine
  waiting_machine = machine_of machinery state waiting

  abbrev argument : Datum
  argument = value state.running.registers (operand_at line.inst.operands 1)

  abbrev word : ℕ
  word = word_in extra.running.words (operand_at line.inst.operands 1)

  task : StartsTask (scope_of content related.running.func) line.inst.operands
  task = (calls_by content sound state extra related line rest is id TaskStart (Void ∷ Ptr ∷ []) op_is).operands

  abbrev called : FuncId
  called = task.0

  callee : IsDefinedAs content called.0 (Ptr ∷ [])
  callee = defined_as content called.0 (record { answer = Void; params = Ptr ∷ [] }) task.2

  arguments : AreArguments extra.heap.stands (map (λ arg. arg.ty) callee.func.args) (argument ∷ []) (word ∷ [])
  arguments =
      subst (λ (types : List Ty). AreArguments extra.heap.stands types (argument ∷ []) (word ∷ [])) (sym callee.args) (
        record {
          number = λ plain. absurd (true≢false plain);
          base = λ managed.
              base_of_pair extra.heap.stands (pointer_in argument) word
              (related.running.words.pointers (operand_at line.inst.operands 1) (operand_at line.inst.operands 1)
              (own_passed content sound state extra related line rest is id TaskStart (Void ∷ Ptr ∷ []) op_is (operand_at line.inst.operands 1)
              (second_passed (value_types related.running.func) (replicate (length line.inst.operands - 2) Ptr) line.inst.operands
              (fits content sound state extra related line rest is id TaskStart (Void ∷ Ptr ∷ []) op_is))));
        },
        tt,
      )

  -- ---- both steps

  here_is : step setting state ≡ started setting state called.0 argument
  unfolding step
  here_is =
      ap (steps_at setting state) is
      ∙ (ap (acts setting state line rest) op_is
      ∙ (ap (λ (name : Option Operand). started setting state (function_in name) (operand state.running.registers (take 2 line.inst.operands) 1)) (first_taken line.inst.operands ∙ task.1)
      ∙ ap (started setting state called.0)
      (value_at state.running.registers (take 2 line.inst.operands) 1 ∙ ap (value state.running.registers) (second_taken line.inst.operands))))

  there_is : machine_step machinery machine ≡ started_machine machinery waiting_machine called.0 (number word)
  unfolding machine_step
  there_is =
      ap (machine_at machinery machine) (ap (map worded) is)
      ∙ (ap (machine_acts machinery machine (worded line) (map worded rest)) op_is
      ∙ (ap (λ (now : Machine). calls machinery now (worded line) (map worded rest) TaskStart (take 2 (map worded_operand line.inst.operands))) waits_so.is
      ∙ (ap (λ (name : Option Operand). started_machine machinery waiting_machine (function_in name) (operand (map number extra.running.words) (take 2 (map worded_operand line.inst.operands)) 1))
      (first_worded line.inst.operands (operands.Fun called) task.1)
      ∙ ap (started_machine machinery waiting_machine called.0) (second_word extra.running.words line.inst.operands))))

  -- ---- behind the step

  abbrev started_state : State
  started_state = record state {
    running = entered setting called.0 (argument ∷ []);
    below = [];
    task = length state.tasks;
    tasks = frames_of_all state ++ [] ∷ [];
  }

  abbrev started_extra : Extra
  started_extra = record extra { running = entered_words content called.0 (word ∷ []); below = []; tasks = words_of_all state waiting ++ [] ∷ [] }

  abbrev AreFrames : List Frame → List FrameWords → Type 0
  AreFrames frames held = AllZip (IsWaiting content extra.heap.stands) frames held

  abbrev begun : Frame → List (List Frame) → List (List ℕ) → Machine
  begun frame tasks stacks = record waiting_machine {
    state = record waiting_machine.state { running = frame; below = []; task = length state.tasks; tasks = tasks };
    stack = new_frame machinery called.0 0;
    stacks = stacks;
  }

  abbrev old_tasks : List (List Frame)
  old_tasks = set waiting_machine.state.tasks state.task (waiting_machine.state.running ∷ waiting_machine.state.below)

  abbrev old_stacks : List (List ℕ)
  old_stacks = set waiting_machine.stacks state.task waiting_machine.stack

  tasks_are : worded_tasks (frames_of_all state ++ [] ∷ []) (words_of_all state waiting ++ [] ∷ []) ≡ old_tasks ++ [] ∷ []
  tasks_are =
      tasks_end AreFrames (frames_of_all state) (words_of_all state waiting) [] [] waits_so.waiting.all
      ∙ ap (λ (tasks : List (List Frame)). tasks ++ [] ∷ [])
      (tasks_set AreFrames state.tasks extra.tasks state.task (state.running ∷ state.below) (waiting.running ∷ extra.below) related.tasks)

  stacks_are : stacks_of machinery (worded_tasks (frames_of_all state ++ [] ∷ []) (words_of_all state waiting ++ [] ∷ [])) (words_of_all state waiting ++ [] ∷ []) ≡ old_stacks ++ [] ∷ []
  stacks_are =
      stacks_end AreFrames machinery (frames_of_all state) (words_of_all state waiting) [] [] waits_so.waiting.all
      ∙ ap (λ (stacks : List (List ℕ)). stacks ++ [] ∷ [])
      (stacks_set AreFrames machinery state.tasks extra.tasks state.task (state.running ∷ state.below) (waiting.running ∷ extra.below) related.tasks)

  machine_is : begun (entered machinery.setting called.0 (number word ∷ [])) (old_tasks ++ [] ∷ []) (old_stacks ++ [] ∷ []) ≡ machine_of machinery started_state started_extra
  machine_is =
      ap (λ (frame : Frame). begun frame (old_tasks ++ [] ∷ []) (old_stacks ++ [] ∷ []))
      (sym (entered_words_are content called.0 callee.func callee.found (go plan) bound state.objects extra.heap.stands (argument ∷ []) (word ∷ []) arguments))
      ∙ (ap (λ (tasks : List (List Frame)). begun (worded_frame started_state.running started_extra.running.words) tasks (old_stacks ++ [] ∷ [])) (sym tasks_are)
      ∙ ap (λ (stacks : List (List ℕ)). begun (worded_frame started_state.running started_extra.running.words) (worded_tasks started_state.tasks started_extra.tasks) stacks) (sym stacks_are))

  running_awaits : IsAwaiting None state.running
  running_awaits = record { call = line; behind = rest; stands = is; op = subst (WaitsFor None) (sym op_is) (awaits_start id (Void ∷ Ptr ∷ [])) }

  some_task : state.task < length state.tasks
  some_task = slice_get_within state.tasks state.task [] related.await.place

  await_there : TasksAwait content started_state
  await_there = record {
    below = tt;
    tasks = All-append (AreAwaiting None) (frames_of_all state) ([] ∷ [])
        (All-set (AreAwaiting None) state.tasks state.task (state.running ∷ state.below) (running_awaits, related.await.below) related.await.tasks)
        (All-cons (AreAwaiting None) [] [] tt (All-nil (AreAwaiting None)));
    place = ap (slice_get (frames_of_all state ++ [] ∷ [])) (sym (length-set state.tasks state.task (state.running ∷ state.below))) ∙ get_middle (frames_of_all state) [] [];
    runs = λ first. let within = some_task in absurd (omega (arith, first));
    waits = began_with_main content state.tasks state.task state.running state.below ([] ∷ []) related.await.place related.await.runs related.await.waits;
  }

  related_there : IsRelated content started_state started_extra
  related_there = record {
    objects = related.objects;
    settled = related.settled;
    running = frame_entered content called.0 callee.func callee.found (go plan) bound state.objects extra.heap.stands (argument ∷ []) (word ∷ []) arguments;
    below = tt;
    tasks = zip_pushed AreFrames (frames_of_all state) (words_of_all state waiting) [] [] waits_so.waiting.all tt;
    await = await_there;
  }

  by_room : (b : Bool) → StepFollows content machinery (if b then goes_on started_state else ends (Trapped Tasks) state)
      (then_on (λ (now : Machine). record now { stack = new_frame machinery called.0 0; stacks = old_stacks ++ [] ∷ [] }) (lifted waiting_machine (if b
      then goes_on (begun (entered machinery.setting called.0 (number word ∷ [])) (old_tasks ++ [] ∷ []) (old_stacks ++ [] ∷ [])).state
      else ends (Trapped Tasks) waiting_machine.state)))
  by_room true =
      both_go started_state (begun (entered machinery.setting called.0 (number word ∷ [])) (old_tasks ++ [] ∷ []) (old_stacks ++ [] ∷ []))
      (record { extra = started_extra; is = machine_is; related = related_there })
  by_room false = both_end (Trapped Tasks) state waiting_machine (last_waiting content machinery state waiting related.objects waits_so.waiting.running related.below)

  starts_so : StepFollows content machinery (started setting state called.0 argument) (started_machine machinery waiting_machine called.0 (number word))
  starts_so =
      subst (λ (count : ℕ). StepFollows content machinery (started setting state called.0 argument)
      (then_on (λ (now : Machine). record now { stack = new_frame machinery called.0 0; stacks = old_stacks ++ [] ∷ [] }) (lifted waiting_machine (if ltb count 64
      then goes_on (record waiting_machine.state { running = entered machinery.setting called.0 (number word ∷ []); below = []; task = count; tasks = old_tasks ++ [] ∷ [] })
      else ends (Trapped Tasks) waiting_machine.state))))
      (sym (task_count AreFrames state.tasks extra.tasks related.tasks))
      (by_room (ltb (length state.tasks) 64))

  -- related before, both start the task, and related after
  pub task_follows : StepFollows content machinery (step setting state) (machine_step machinery machine)
  task_follows =
      subst (λ (effect : Effect State). StepFollows content machinery effect (machine_step machinery machine)) (sym here_is)
      (subst (StepFollows content machinery (started setting state called.0 argument)) (sym there_is) starts_so)

-- a `task_start` takes the name of a function and a pointer
two_passed : (content : ModuleContent) (sound : IsSound content) (state : State) (extra : Extra) (related : IsRelated content state extra) (line : Line) (rest : List Line)
    → state.running.rest ≡ line ∷ rest → (id : ℕ) (passed : List Ty) → line.inst.op ≡ Statepoint id TaskStart passed → passed ≡ Void ∷ Ptr ∷ []
two_passed content sound state extra related line rest is id passed op_is =
    ap (λ (one : Signature). one.params)
    (sym (same_Some (record { answer = Void; params = Void ∷ Ptr ∷ [] }) (record { answer = line.inst.ty; params = passed })
    (calls_by content sound state extra related line rest is id TaskStart passed op_is).signature))

pub tasks_follow : StatesWait → TasksFollow
tasks_follow states_wait content sound plan bound state extra related line rest is due = by line.inst.op due refl
  where
    by : (op : Op) → IsStatepointOf StartsOne op → line.inst.op ≡ op
        → StepFollows content (machinery_of content (map_of content) plan bound) (step (target_setting content (go plan) bound) state)
        (machine_step (machinery_of content (map_of content) plan bound) (machine_of (machinery_of content (map_of content) plan bound) state extra))
    by _ (waits id _ types starts) op_is =
        task_follows states_wait content sound plan bound state extra related line rest is id
        (op_is ∙ ap (Statepoint id TaskStart) (two_passed content sound state extra related line rest is id types op_is))
