-- A call of a defined function: the machine pushes the frame that the target meaning enters, over the words of the one that waits.
use Rattle.std.proofs.Common.{◌≡◌, ℕ, ◌+◌, ◌-◌, Bool, true, false, List, [], ◌∷◌, ◌++◌, length, map, replicate, take, refl, sym, ap, ◌∙◌, subst, append_assoc, ltb, Some}
use Rattle.std.specs.Prelude.{if◌then◌else◌}
use Rattle.sp_ids.specs.declared.ends.End.TheVariants.{OutOfSteps, Trap as Trapped}
use Rattle.sp_ids.specs.declared.ends.Trap.TheVariants.{Depth}
use Rattle.sp_ids.specs.declared.ids.FuncId.{FuncId}
use Rattle.ir_ast.specs.declared.ops.Callee.TheVariants.{Fun}
use Rattle.ir_ast.specs.declared.ops.Op.{Op}
use Rattle.ir_ast.specs.declared.ops.Op.TheVariants.{Statepoint}
use Rattle.ir_ast.specs.declared.types.Ty.{Ty}
use Rattle.ir_ast.specs.declared.types.Ty.TheVariants.{Ptr}
use Rattle.ir_ast.specs.Modules.{ModuleContent}
use Rattle.ir_ast.specs.Objects.{Datum, number}
use Rattle.ir_ast.specs.Values.{value_types}
use Rattle.move_plan.specs.declared.plan_lines.PlanLine.{PlanLine}
use Rattle.move_plan.specs.Plans.{go}
use Rattle.object_meaning.specs.Calls.{entering, stepped}
use Rattle.object_meaning.specs.Effects.{Effect, ends, goes_on}
use Rattle.object_meaning.specs.Frames.{entered}
use Rattle.object_meaning.specs.Lines.{Line}
use Rattle.object_meaning.specs.Registers.{value}
use Rattle.object_meaning.specs.States.{Frame, Setting, State}
use Rattle.object_meaning.specs.Steps.{acts, step, steps_at}
use Rattle.object_meaning.specs.TargetRuns.{target_setting}
use Rattle.stackmap_write.specs.ModuleMaps.{map_of}
use Rattle.machine_meaning.specs.Code.{machinery_of, words_in}
use Rattle.machine_meaning.specs.Machines.{Machine, Machinery, address_behind, lifted, return_address, return_to, then_on}
use Rattle.machine_meaning.specs.MachineSteps.{calls, machine_acts, machine_at, machine_step}
use Rattle.machine_meaning.specs.MachineTasks.{pushed}
use Rattle.machine_meaning.specs.Relations.{word_in}
use Rattle.machine_meaning.specs.Words.{worded, worded_operand}
use Rattle.moves_unseen.specs.Awaits.{calls as awaits_call}
use Rattle.moves_unseen.specs.Awaits.{WaitsFor}
use Rattle.moves_unseen.specs.Entries.{AreArguments, entered_words}
use Rattle.moves_unseen.specs.Frames.{IsWaiting}
use Rattle.moves_unseen.specs.States.{Extra, IsRelated, machine_of}
use Rattle.moves_unseen.specs.Steps.{StepFollows, both_end, both_go}
use Rattle.moves_unseen.specs.Waits.{CallsFollow, IsDefined, IsSound, IsStatepointOf, defined, waits}
use Rattle.moves_unseen.proofs.EntryLaws.{entered_words_are, frame_entered}
use Rattle.moves_unseen.proofs.LastLaws.{last_waiting}
use Rattle.runs_unseen.specs.WaitingStates.{IsWaitingState, StatesWait, at_statepoint}
use Rattle.runs_unseen.proofs.calls_unseen.Arguments.{arguments_are, words_of_arguments}
use Rattle.runs_unseen.proofs.calls_unseen.StatepointLines.{IsDefinedAs, calls_by, defined_as, fits, own_passed}
use Rattle.runs_unseen.proofs.calls_unseen.TaskLists.{frame_count}

module _ (states_wait : StatesWait) (content : ModuleContent) (sound : IsSound content) (plan : List PlanLine) (bound : ℕ) (state : State) (extra : Extra)
    (related : IsRelated content state extra) (line : Line) (rest : List Line) (is : state.running.rest ≡ line ∷ rest)
    (id : ℕ) (called : FuncId) (passed : List Ty) (op_is : line.inst.op ≡ Statepoint id (Fun called) passed) where
  abbrev machinery : Machinery
  machinery = machinery_of content (map_of content) plan bound

  abbrev setting : Setting
  setting = target_setting content (go plan) bound

  abbrev machine : Machine
  machine = machine_of machinery state extra

  -- the caller waits
  waits_so : IsWaitingState content machinery state extra line (length passed)
  waits_so = states_wait content sound machinery state extra related line rest is id (Fun called) passed op_is

  abbrev waiting : Extra
  waiting = at_statepoint extra line (length passed)

  abbrev waiting_machine : Machine
  waiting_machine = machine_of machinery state waiting

  abbrev given : List Datum
  given = map (value state.running.registers) (take (length passed) line.inst.operands)

  abbrev words : List ℕ
  words = map (word_in extra.running.words) (take (length passed) line.inst.operands)

  callee : IsDefinedAs content called.0 passed
  callee =
      defined_as content called.0 (record { answer = line.inst.ty; params = passed })
      (calls_by content sound state extra related line rest is id (Fun called) passed op_is).signature

  arguments : AreArguments extra.heap.stands (map (λ arg. arg.ty) callee.func.args) given words
  arguments =
      subst (λ (types : List Ty). AreArguments extra.heap.stands types given words) (sym callee.args)
      (arguments_are extra.heap.stands (value_types related.running.func) related.running.pairs state.running.registers extra.running.words related.running.words
      passed (replicate (length line.inst.operands - length passed) Ptr) line.inst.operands
      (fits content sound state extra related line rest is id (Fun called) passed op_is)
      (own_passed content sound state extra related line rest is id (Fun called) passed op_is))

  -- ---- both steps

  abbrev address : ℕ
  address = address_behind machinery waiting_machine.state.running (worded line) (map worded rest)

  here_is : step setting state ≡ stepped setting state (entering setting called.0 given)
  unfolding step
  here_is = ap (steps_at setting state) is ∙ ap (acts setting state line rest) op_is

  there_is : machine_step machinery machine
      ≡ then_on (pushed machinery called.0 address) (lifted waiting_machine (stepped machinery.setting waiting_machine.state (entering machinery.setting called.0 (map number words))))
  unfolding machine_step
  there_is =
      ap (machine_at machinery machine) (ap (map worded) is)
      ∙ (ap (machine_acts machinery machine (worded line) (map worded rest)) op_is
      ∙ (ap (λ (now : Machine). calls machinery now (worded line) (map worded rest) (Fun called) (take (length passed) (map worded_operand line.inst.operands))) waits_so.is
      ∙ ap (λ (all : List Datum). then_on (pushed machinery called.0 address) (lifted waiting_machine (stepped machinery.setting waiting_machine.state (entering machinery.setting called.0 all))))
      (words_of_arguments extra.running.words (length passed) line.inst.operands)))

  -- ---- behind the step

  abbrev next : State
  next = record state { steps = state.steps + 1 }

  abbrev next_machine : Machine
  next_machine = machine_of machinery next waiting

  abbrev entered_state : State
  entered_state = record next { running = entered setting called.0 given; below = state.running ∷ state.below }

  abbrev entered_extra : Extra
  entered_extra = record extra { running = entered_words content called.0 words; below = waiting.running ∷ extra.below }

  abbrev entered_machine : Frame → List ℕ → Machine
  entered_machine frame stack = record next_machine {
    state = record next_machine.state { running = frame; below = next_machine.state.running ∷ next_machine.state.below };
    stack = stack;
  }

  address_is : return_address machinery waiting_machine.state.running ≡ address
  address_is = ap (return_to machinery waiting_machine.state.running) (ap (map worded) is)

  abbrev zeros : List ℕ
  zeros = replicate (words_in content called.0) 0

  machine_is : pushed machinery called.0 address (entered_machine (entered machinery.setting called.0 (map number words)) next_machine.stack) ≡ machine_of machinery entered_state entered_extra
  machine_is =
      ap (λ (frame : Frame). pushed machinery called.0 address (entered_machine frame next_machine.stack))
      (sym (entered_words_are content called.0 callee.func callee.found (go plan) bound state.objects extra.heap.stands given words arguments))
      ∙ ap (λ (stack : List ℕ). record (machine_of machinery entered_state entered_extra) { stack = stack })
      (append_assoc zeros (address ∷ []) next_machine.stack ∙ ap (λ (to : ℕ). zeros ++ to ∷ next_machine.stack) (sym address_is))

  related_there : IsRelated content entered_state entered_extra
  related_there = record {
    objects = related.objects;
    settled = related.settled;
    running = frame_entered content called.0 callee.func callee.found (go plan) bound state.objects extra.heap.stands given words arguments;
    below = (waits_so.waiting.running, related.below);
    tasks = related.tasks;
    await = record {
      below = (record { call = line; behind = rest; stands = is; op = subst (WaitsFor (Some called.0)) (sym op_is) (awaits_call id called passed) }, related.await.below);
      tasks = related.await.tasks;
      place = related.await.place;
      runs = related.await.runs;
      waits = related.await.waits;
    };
  }

  by_depth : (b : Bool) → StepFollows content machinery (if b then goes_on entered_state else ends (Trapped Depth) next)
      (then_on (pushed machinery called.0 address) (lifted next_machine (if b
      then goes_on (entered_machine (entered machinery.setting called.0 (map number words)) next_machine.stack).state
      else ends (Trapped Depth) next_machine.state)))
  by_depth true =
      both_go entered_state (pushed machinery called.0 address (entered_machine (entered machinery.setting called.0 (map number words)) next_machine.stack))
      (record { extra = entered_extra; is = machine_is; related = related_there })
  by_depth false = both_end (Trapped Depth) next next_machine (last_waiting content machinery next waiting related.objects waits_so.waiting.running related.below)

  enters : StepFollows content machinery (entering setting called.0 given next)
      (then_on (pushed machinery called.0 address) (lifted next_machine (entering machinery.setting called.0 (map number words) next_machine.state)))
  enters =
      subst (λ (count : ℕ). StepFollows content machinery (entering setting called.0 given next)
      (then_on (pushed machinery called.0 address) (lifted next_machine (if ltb (count + 1) 4096
      then goes_on (entered_machine (entered machinery.setting called.0 (map number words)) next_machine.stack).state
      else ends (Trapped Depth) next_machine.state))))
      (sym (frame_count (IsWaiting content extra.heap.stands) state.below extra.below related.below))
      (by_depth (ltb (length state.below + 1) 4096))

  by_bound : (b : Bool) → StepFollows content machinery (if b then entering setting called.0 given next else ends OutOfSteps state)
      (then_on (pushed machinery called.0 address) (lifted waiting_machine (if b then entering machinery.setting called.0 (map number words) next_machine.state else ends OutOfSteps waiting_machine.state)))
  by_bound true = enters
  by_bound false = both_end OutOfSteps state waiting_machine (last_waiting content machinery state waiting related.objects waits_so.waiting.running related.below)

  -- related before, both enter the function, and related after
  pub call_follows : StepFollows content machinery (step setting state) (machine_step machinery machine)
  call_follows =
      subst (λ (effect : Effect State). StepFollows content machinery effect (machine_step machinery machine)) (sym here_is)
      (subst (StepFollows content machinery (stepped setting state (entering setting called.0 given))) (sym there_is) (by_bound (ltb state.steps bound)))

pub calls_follow : StatesWait → CallsFollow
calls_follow states_wait content sound plan bound state extra related line rest is due = by line.inst.op due refl
  where
    by : (op : Op) → IsStatepointOf IsDefined op → line.inst.op ≡ op
        → StepFollows content (machinery_of content (map_of content) plan bound) (step (target_setting content (go plan) bound) state)
        (machine_step (machinery_of content (map_of content) plan bound) (machine_of (machinery_of content (map_of content) plan bound) state extra))
    by _ (waits id _ types (defined called)) op_is = call_follows states_wait content sound plan bound state extra related line rest is id called types op_is
