-- A `ret` is one step of both: to the frame below, to task 0, or from the run.
use Rattle.std.proofs.Common.{◌≡◌, ℕ, suc, ◌+◌, ◌==◌, Bool, true, false, List, [], ◌∷◌, ◌++◌, length, map, drop, refl, sym, ap, ◌∙◌, subst, arith, ltb, Option, Some, None}
use Rattle.std.specs.Prelude.{slice_get, if◌then◌else◌}
use Rattle.std.specs.List.{AllZip}
use Rattle.std.specs.Option.{option_map_or}
use Rattle.std.proofs.lemmas.Bool.{eqb-true}
use Rattle.std.proofs.lemmas.List.Elements.{All-cons, All-head, All-tail}
use Rattle.sp_ids.specs.declared.ends.End.TheVariants.{OutOfSteps, Return, Trap}
use Rattle.sp_ids.specs.declared.ends.Trap.TheVariants.{Unreachable}
use Rattle.sp_ids.specs.Numbers.{signed}
use Rattle.ir_ast.specs.declared.ops.Op.{Op}
use Rattle.ir_ast.specs.declared.ops.Op.TheVariants as ops
use Rattle.ir_ast.specs.declared.types.Ty.{Ty}
use Rattle.ir_ast.specs.Funcs.{Function}
use Rattle.ir_ast.specs.Modules.{ModuleContent}
use Rattle.ir_ast.specs.Objects.{Datum, number}
use Rattle.map_bytes.specs.Maps.{StackMap}
use Rattle.move_plan.specs.declared.plan_lines.PlanLine.{PlanLine}
use Rattle.move_plan.specs.Plans.{go}
use Rattle.frame_forms.specs.FrameSizes.{frame_words}
use Rattle.object_meaning.specs.Effects.{Effect, ends, goes_on}
use Rattle.object_meaning.specs.Frames.{resumed}
use Rattle.object_meaning.specs.Lines.{Line}
use Rattle.object_meaning.specs.Numbers.{width_of}
use Rattle.object_meaning.specs.Registers.{nothing, number_in, operand}
use Rattle.object_meaning.specs.States.{Frame, Setting, State}
use Rattle.object_meaning.specs.Steps.{acts, returned, step, steps_at}
use Rattle.object_meaning.specs.TargetRuns.{target_setting}
use Rattle.object_meaning.specs.Tasks.{handed_over}
use Rattle.machine_meaning.specs.Code.{machinery_of, words_in}
use Rattle.machine_meaning.specs.Machines.{Machine, Machinery, gone_on}
use Rattle.machine_meaning.specs.MachineSteps.{behind_step, machine_acts, machine_at, machine_step, returns}
use Rattle.machine_meaning.specs.MachineTasks.{handed_machine}
use Rattle.machine_meaning.specs.Relations.{word_in}
use Rattle.machine_meaning.specs.Words.{worded, worded_operand, worded_type}
use Rattle.pair_facts.specs.Lines.{operand_at}
use Rattle.moves_unseen.specs.Awaits.{AllAwait, AreAwaiting}
use Rattle.moves_unseen.specs.Frames.{FrameWords, IsWaiting}
use Rattle.moves_unseen.specs.States.{Extra, IsRelated, machine_of, return_below, stack_of, worded_frame, worded_frames, worded_tasks}
use Rattle.moves_unseen.specs.Steps.{StepFollows, both_end, both_go}
use Rattle.moves_unseen.specs.Waits.{IsSound, Returns}
use Rattle.moves_unseen.specs.Waits as lines
use Rattle.moves_unseen.proofs.SelectSteps.{worded_at}
use Rattle.moves_unseen.proofs.LastLaws.{last_of, last_running}
use Rattle.runs_unseen.proofs.frames_resumed.StateLaws.{nothing_answers, resumed_follows}
use Rattle.runs_unseen.proofs.returns_unseen.AnswerLaws.{answers_caller, answers_run}

-- the words of a frame and its return word leave the stack
left_behind : (slots : List ℕ) (returns_to : ℕ) (below : List ℕ) → drop (length slots + 1) (slots ++ returns_to ∷ below) ≡ below
left_behind [] returns_to below = refl
left_behind (word ∷ slots) returns_to below =
    let more : length (word ∷ slots) + 1 ≡ suc (length slots + 1) = omega arith in
    rw more (left_behind slots returns_to below)

none_first : (all : List (List Frame)) (frame : Frame) (more : List Frame) → slice_get ([] ∷ all) 0 ≡ Some (frame ∷ more) → ⊥
none_first all frame more is = cc

module _ (content : ModuleContent) (sound : IsSound content) (map_given : StackMap) (plan : List PlanLine) (bound : ℕ) (state : State) (extra : Extra)
    (related : IsRelated content state extra) (line : Line) (rest : List Line) (is : state.running.rest ≡ line ∷ rest) (op_is : line.inst.op ≡ ops.Ret) where
  abbrev machinery : Machinery
  machinery = machinery_of content map_given plan bound

  abbrev setting : Setting
  setting = target_setting content (go plan) bound

  abbrev machine : Machine
  machine = machine_of machinery state extra

  abbrev answer : Datum
  answer = operand state.running.registers line.inst.operands 0

  abbrev word : ℕ
  word = word_in extra.running.words (operand_at line.inst.operands 0)

  abbrev width : ℕ
  width = width_of line.inst.ty

  -- the states after the step, where these frames and tasks wait
  abbrev next : List Frame → List (List Frame) → State
  next frames all = record state { below = frames; tasks = all; steps = state.steps + 1 }

  abbrev besides : List FrameWords → List (List FrameWords) → Extra
  besides helds more = record extra { below = helds; tasks = more }

  abbrev now : List Frame → List FrameWords → List (List Frame) → List (List FrameWords) → Machine
  now frames helds all more = machine_of machinery (next frames all) (besides helds more)

  -- ---- a task that ends

  by_tasks : (all : List (List Frame)) (more : List (List FrameWords)) → AllZip (λ frames held. AllZip (IsWaiting content extra.heap.stands) frames held) all more
      → AllAwait content state.running.func [] state.task all
      → StepFollows content machinery (handed_over (next [] all) (slice_get all 0)) (handed_machine (now [] [] all more) (slice_get (worded_tasks all more) 0))
  by_tasks [] [] waiting await = both_end (Trap Unreachable) (next [] []) (now [] [] [] []) (last_running content machinery (next [] []) (besides [] []) related.objects related.running tt)
  by_tasks [] (helds ∷ more) waiting await = absurd waiting
  by_tasks (frames ∷ all) [] waiting await = absurd waiting
  by_tasks ([] ∷ all) ([] ∷ more) waiting await =
      both_end (Trap Unreachable) (next [] ([] ∷ all)) (now [] [] ([] ∷ all) ([] ∷ more)) (last_running content machinery (next [] ([] ∷ all)) (besides [] ([] ∷ more)) related.objects related.running tt)
  by_tasks ([] ∷ all) ((held ∷ helds) ∷ more) waiting await = absurd waiting.0
  by_tasks ((frame ∷ below) ∷ all) ([] ∷ more) waiting await = absurd waiting.0
  by_tasks ((frame ∷ below) ∷ all) ((held ∷ helds) ∷ more) waiting await =
      let there : State = record state { running = frame; below = below; task = 0; tasks = [] ∷ all; steps = state.steps + 1 } in
      let beside : Extra = record extra { running = held; below = helds; tasks = [] ∷ more } in
      let own = All-head (AreAwaiting None) (frame ∷ below) all await.tasks in
      both_go (resumed there nothing) (gone_on nothing (machine_of machinery there beside))
      (resumed_follows content sound machinery there beside related.objects related.settled (waiting.0).0 (waiting.0).1 (tt, waiting.1)
      (record {
        below = own.1;
        tasks = All-cons (AreAwaiting None) [] all tt (All-tail (AreAwaiting None) (frame ∷ below) all await.tasks);
        place = refl;
        runs = λ first. await.waits frame below refl;
        waits = λ other others stands. absurd (none_first all other others stands);
      })
      nothing 0 (nothing_answers extra.heap.stands _))

  by_task : AllAwait content state.running.func [] state.task state.tasks → (b : Bool) → (state.task == 0) ≡ b
      → StepFollows content machinery
      (if b then ends (Return (signed width (number_in answer))) (next [] state.tasks) else handed_over (next [] state.tasks) (slice_get state.tasks 0))
      (if b then ends (Return (signed width word)) (now [] [] state.tasks extra.tasks) else handed_machine (now [] [] state.tasks extra.tasks) (slice_get (worded_tasks state.tasks extra.tasks) 0))
  by_task await true first =
      subst (λ (n : ℕ). StepFollows content machinery (ends (Return (signed width (number_in answer))) (next [] state.tasks)) (ends (Return (signed width n)) (now [] [] state.tasks extra.tasks)))
      (sym (answers_run content sound state.objects extra.heap.stands state.running extra.running related.running line rest is op_is (await.runs (eqb-true state.task 0 first))))
      (both_end (Return (signed width (number_in answer))) (next [] state.tasks) (now [] [] state.tasks extra.tasks) (last_running content machinery (next [] state.tasks) (besides [] extra.tasks) related.objects related.running tt))
  by_task await false other = by_tasks state.tasks extra.tasks related.tasks await

  -- ---- a return to the frame below

  frame_size : words_in content state.running.func ≡ length extra.running.slots
  frame_size = ap (λ (found : Option Function). option_map_or frame_words found 0) related.running.at.defined ∙ sym related.running.slots

  by_frames : (frames : List Frame) (helds : List FrameWords) → AllZip (IsWaiting content extra.heap.stands) frames helds
      → AllAwait content state.running.func frames state.task state.tasks
      → StepFollows content machinery (returned width answer frames (next frames state.tasks))
      (returns machinery (now frames helds state.tasks extra.tasks) width (number word) (worded_frames frames helds))
  by_frames [] [] waiting await = by_task await (state.task == 0) refl
  by_frames [] (held ∷ helds) waiting await = absurd waiting
  by_frames (caller ∷ below) [] waiting await = absurd waiting
  by_frames (caller ∷ below) (held ∷ helds) waiting await =
      let there : State = record state { running = caller; below = below; steps = state.steps + 1 } in
      let beside : Extra = record extra { running = held; below = helds } in
      let stack = stack_of machinery (worded_frame caller held.words ∷ worded_frames below helds) (held ∷ helds) in
      let dropped : drop (words_in content state.running.func + 1) (extra.running.slots ++ return_below machinery (worded_frame caller held.words ∷ worded_frames below helds) ∷ stack) ≡ stack =
      ap (λ (size : ℕ). drop (size + 1) (extra.running.slots ++ return_below machinery (worded_frame caller held.words ∷ worded_frames below helds) ∷ stack)) frame_size
      ∙ left_behind extra.running.slots (return_below machinery (worded_frame caller held.words ∷ worded_frames below helds)) stack in
      subst (λ (left : List ℕ). StepFollows content machinery (goes_on (resumed there answer)) (goes_on (gone_on (number word) (record (machine_of machinery there beside) { stack = left })))) (sym dropped)
      (both_go (resumed there answer) (gone_on (number word) (machine_of machinery there beside))
      (resumed_follows content sound machinery there beside related.objects related.settled waiting.0 waiting.1 related.tasks
      (record { below = await.below.1; tasks = await.tasks; place = await.place; runs = await.runs; waits = await.waits })
      answer word
      (answers_caller content sound state.objects extra.heap.stands state.running extra.running related.running line rest is op_is caller held waiting.0 await.below.0)))

  -- ---- both steps

  abbrev Both : Type 0
  Both = StepFollows content machinery (step setting state) (machine_step machinery machine)

  taken : StepFollows content machinery (returned width answer state.below (next state.below state.tasks))
      (returns machinery (now state.below extra.below state.tasks extra.tasks) (width_of (worded_type line.inst.op line.inst.ty))
      (operand (map number extra.running.words) (map worded_operand line.inst.operands) 0) (worded_frames state.below extra.below))
  taken =
      subst (λ (ty : Ty). StepFollows content machinery (returned width answer state.below (next state.below state.tasks))
      (returns machinery (now state.below extra.below state.tasks extra.tasks) (width_of ty) (operand (map number extra.running.words) (map worded_operand line.inst.operands) 0) (worded_frames state.below extra.below)))
      (sym (ap (λ (op : Op). worded_type op line.inst.ty) op_is))
      (subst (λ (datum : Datum). StepFollows content machinery (returned width answer state.below (next state.below state.tasks))
      (returns machinery (now state.below extra.below state.tasks extra.tasks) width datum (worded_frames state.below extra.below)))
      (sym (worded_at extra.running.words line.inst.operands 0))
      (by_frames state.below extra.below related.below related.await))

  -- related before, the machine returns as the target meaning, and related after
  pub ret_follows : Both
  unfolding step machine_step
  ret_follows =
      subst (λ (effect : Effect State). StepFollows content machinery effect (machine_step machinery machine))
      (sym (ap (steps_at setting state) is ∙ ap (acts setting state line rest) op_is))
      (subst (StepFollows content machinery (acts setting state line rest ops.Ret))
      (sym (ap (machine_at machinery machine) (ap (map worded) is) ∙ ap (machine_acts machinery machine (worded line) (map worded rest)) op_is))
      (by (ltb state.steps bound)))
    where
      by : (b : Bool) → StepFollows content machinery (if b then returned width answer state.below (next state.below state.tasks) else ends OutOfSteps state)
          (behind_step machine
          (λ (after : Machine). returns machinery after (width_of (worded line).inst.ty) (operand after.state.running.registers (worded line).inst.operands 0) after.state.below)
          (if b then goes_on (record machine.state { steps = state.steps + 1 }) else ends OutOfSteps machine.state))
      by true = taken
      by false = both_end OutOfSteps state machine (last_of content machinery state extra related)

is_return : (op : Op) → Returns op → op ≡ ops.Ret
is_return _ lines.returns = refl

-- each return of a sound module
pub return_follows : (content : ModuleContent) → IsSound content → (map_given : StackMap) (plan : List PlanLine) (bound : ℕ) (state : State) (extra : Extra) → IsRelated content state extra
    → (line : Line) (rest : List Line) → state.running.rest ≡ line ∷ rest → Returns line.inst.op
    → StepFollows content (machinery_of content map_given plan bound) (step (target_setting content (go plan) bound) state)
    (machine_step (machinery_of content map_given plan bound) (machine_of (machinery_of content map_given plan bound) state extra))
return_follows content sound map_given plan bound state extra related line rest is due =
    ret_follows content sound map_given plan bound state extra related line rest is (is_return line.inst.op due)
