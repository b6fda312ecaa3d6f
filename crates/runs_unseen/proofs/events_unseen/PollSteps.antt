-- A statepoint whose callee is an event, and a poll as one step of both.
use Rattle.std.proofs.Common.{◌≡◌, ℕ, List, ◌∷◌, length, take, drop, map, refl, sym, ap, ◌∙◌, subst, None}
use Rattle.ir_ast.specs.declared.ops.Callee.{Callee}
use Rattle.ir_ast.specs.declared.ops.Callee.TheVariants as callees
use Rattle.ir_ast.specs.declared.ops.Op.{Op}
use Rattle.ir_ast.specs.declared.ops.Op.TheVariants.{Statepoint}
use Rattle.ir_ast.specs.declared.types.Ty.{Ty}
use Rattle.ir_ast.specs.Modules.{ModuleContent}
use Rattle.move_plan.specs.declared.plan_lines.PlanLine.{PlanLine}
use Rattle.move_plan.specs.Plans.{go}
use Rattle.object_meaning.specs.Calls.{called}
use Rattle.object_meaning.specs.Effects.{Effect}
use Rattle.object_meaning.specs.Effects as effects
use Rattle.object_meaning.specs.Frames.{grouped}
use Rattle.object_meaning.specs.Lines.{Line}
use Rattle.object_meaning.specs.States.{Setting, State}
use Rattle.object_meaning.specs.Steps.{acts, step, steps_at}
use Rattle.object_meaning.specs.TargetRuns.{target_setting}
use Rattle.object_meaning.specs.Tasks.{polled, with_event}
use Rattle.stackmap_write.specs.ModuleMaps.{map_of}
use Rattle.machine_meaning.specs.Code.{machinery_of}
use Rattle.machine_meaning.specs.Machines.{Machine, Machinery, spilled}
use Rattle.machine_meaning.specs.MachineSteps.{calls, machine_acts, machine_at, machine_step}
use Rattle.machine_meaning.specs.MachineTasks.{polled_machine}
use Rattle.machine_meaning.specs.Moving.{eventful}
use Rattle.machine_meaning.specs.Words.{worded, worded_operand}
use Rattle.moves_unseen.specs.Awaits.{WaitsFor, polls}
use Rattle.moves_unseen.specs.States.{Extra, IsRelated, machine_of}
use Rattle.moves_unseen.specs.Steps.{StepFollows, both_go}
use Rattle.moves_unseen.specs.Waits.{IsSound, IsStatepointOf, Polls, PollsFollow, spilled_words}
use Rattle.moves_unseen.specs.Waits as words
use Rattle.runs_unseen.proofs.frames_spilled.SpillLaws.{spills as spilled_is}
use Rattle.runs_unseen.proofs.frames_spilled.WaitLaws.{waits as running_waits}
use Rattle.runs_unseen.proofs.events_unseen.EventLaws.{AllWait, HasMoved, has_moved}
use Rattle.runs_unseen.proofs.events_unseen.SwitchLaws.{goes_by}

-- the statepoint of such a callee
pub record IsAt (due : Callee → Type 0) (op : Op) : Type 0 where
  pub id : ℕ
  pub callee : Callee
  pub types : List Ty
  pub is : op ≡ Statepoint id callee types
  pub due_is : due callee

pub statepoint_at : (due : Callee → Type 0) (op : Op) → IsStatepointOf due op → IsAt due op
statepoint_at due _ (words.waits id callee types due_is) = record { id = id; callee = callee; types = types; is = refl; due_is = due_is }

-- ---- an event at a statepoint

module _ (content : ModuleContent) (sound : IsSound content) (plan : List PlanLine) (bound : ℕ)
    (state : State) (extra : Extra) (related : IsRelated content state extra) (line : Line) (rest : List Line) (is : state.running.rest ≡ line ∷ rest)
    (id : ℕ) (callee : Callee) (types : List Ty) (op_is : line.inst.op ≡ Statepoint id callee types) where
  abbrev pub machinery : Machinery
  machinery = machinery_of content (map_of content) plan bound

  abbrev pub setting : Setting
  setting = target_setting content (go plan) bound

  abbrev pub machine : Machine
  machine = machine_of machinery state extra

  -- its live entries are in its slots
  abbrev pub spilled_extra : Extra
  spilled_extra = record extra { running = spilled_words extra.running line (length types) }

  abbrev pub state_now : State
  state_now = with_event state

  pub all_wait : AllWait content state_now spilled_extra
  all_wait = record {
    objects = related.objects;
    settled = related.settled;
    running = running_waits content sound state.objects extra.heap.stands state.running extra.running related.running line rest is id callee types op_is;
    below = related.below;
    tasks = related.tasks;
    await = related.await;
  }

  pub made : HasMoved content sound plan bound state_now spilled_extra all_wait
  made = has_moved content sound plan bound state_now spilled_extra all_wait

  pub here : step setting state ≡ called setting state (grouped state (drop (length types) line.inst.operands) rest) callee (take (length types) line.inst.operands)
  unfolding step
  here = ap (steps_at setting state) is ∙ ap (acts setting state line rest) op_is

  pub there : machine_step machinery machine
      ≡ calls machinery (spilled machine (worded line).inst (length types)) (worded line) (map worded rest) callee (take (length types) (map worded_operand line.inst.operands))
  unfolding machine_step
  there = ap (machine_at machinery machine) (ap (map worded) is) ∙ ap (machine_acts machinery machine (worded line) (map worded rest)) op_is

  -- the machine is that of all frames which wait, after the moves
  pub event_is : (next : Machine → Effect Machine) → eventful machinery (spilled machine (worded line).inst (length types)) next ≡ next (machine_of machinery state_now made.after)
  event_is next =
      ap (λ (m : Machine). eventful machinery m next) (spilled_is content sound machinery state extra related.running line rest is id callee types op_is) ∙ made.is next

-- ---- polls

module _ (content : ModuleContent) (sound : IsSound content) (plan : List PlanLine) (bound : ℕ)
    (state : State) (extra : Extra) (related : IsRelated content state extra) (line : Line) (rest : List Line) (is : state.running.rest ≡ line ∷ rest) where
  poll_follows : (id : ℕ) (callee : Callee) (types : List Ty) → line.inst.op ≡ Statepoint id callee types → Polls callee
      → StepFollows content (machinery_of content (map_of content) plan bound) (step (target_setting content (go plan) bound) state)
      (machine_step (machinery_of content (map_of content) plan bound) (machine_of (machinery_of content (map_of content) plan bound) state extra))
  poll_follows id _ types op_is words.polls =
      let machinery = machinery_of content (map_of content) plan bound in
      let setting = target_setting content (go plan) bound in
      let moved = made content sound plan bound state extra related line rest is id callees.Poll types op_is in
      let follows = goes_by content sound (machinery_of content (map_of content) plan bound) (with_event state) moved.after moved.waits
      (record { call = line; behind = rest; stands = is; op = subst (WaitsFor None) (sym op_is) (polls id types) }) (go plan (with_event state).events) in
      subst (λ (effect : Effect State). StepFollows content (machinery_of content (map_of content) plan bound) effect
      (machine_step (machinery_of content (map_of content) plan bound) (machine_of (machinery_of content (map_of content) plan bound) state extra)))
      (sym (here content sound plan bound state extra related line rest is id callees.Poll types op_is))
      (subst (StepFollows content (machinery_of content (map_of content) plan bound) (effects.goes_on (polled (target_setting content (go plan) bound) state)))
      (sym (there content sound plan bound state extra related line rest is id callees.Poll types op_is
      ∙ event_is content sound plan bound state extra related line rest is id callees.Poll types op_is
      (λ now. effects.goes_on (polled_machine (machinery_of content (map_of content) plan bound) now))))
      (both_go (polled (target_setting content (go plan) bound) state)
      (polled_machine (machinery_of content (map_of content) plan bound) (machine_of (machinery_of content (map_of content) plan bound) (with_event state) moved.after)) follows))

pub polls_follow : PollsFollow
polls_follow content sound plan bound state extra related line rest is due =
    let at = statepoint_at Polls line.inst.op due in
    poll_follows content sound plan bound state extra related line rest is at.id at.callee at.types at.is at.due_is
