-- The `go` line of a poll: both switch to the same task, where all frames of all tasks wait.
use Rattle.std.proofs.Common.{◌≡◌, ℕ, List, [], ◌∷◌, get_or, set, refl, sym, ap, ◌∙◌, subst, Option, Some, None, inl, inr}
use Rattle.std.specs.Prelude.{slice_get}
use Rattle.std.specs.List.{AllZip}
use Rattle.std.specs.Option.{option_map_or}
use Rattle.list_laws.proofs.Contents.{all_at, all_from_at, first_same, rest_same}
use Rattle.list_laws.proofs.Places.{get_set, get_written}
use Rattle.list_laws.proofs.Zips.{zip_at}
use Rattle.ir_ast.specs.Modules.{ModuleContent}
use Rattle.ir_ast.specs.Objects.{Datum, number}
use Rattle.object_meaning.specs.Frames.{resumed}
use Rattle.object_meaning.specs.Lines.{main_of}
use Rattle.object_meaning.specs.Registers.{nothing}
use Rattle.object_meaning.specs.States.{Frame, State}
use Rattle.object_meaning.specs.Tasks.{switched, switched_to}
use Rattle.pair_facts.specs.Lines.{group_in, lines_at}
use Rattle.machine_meaning.specs.Machines.{Machine, Machinery, gone_on}
use Rattle.machine_meaning.specs.MachineTasks.{switched_machine}
use Rattle.moves_unseen.specs.Awaits.{AllAwait, AreAwaiting, IsAwaiting, began}
use Rattle.moves_unseen.specs.Frames.{FrameWords, IsWaiting}
use Rattle.moves_unseen.specs.States.{Extra, Follows, machine_of, stack_of, stacks_of, worded_frame, worded_frames, worded_state, worded_tasks}
use Rattle.moves_unseen.specs.Waits.{IsAnswer, IsSound}
use Rattle.runs_unseen.proofs.frames_resumed.StateLaws.{nothing_answers, resumed_follows}
use Rattle.runs_unseen.proofs.events_unseen.EventLaws.{AllWait, machine_as}
use Rattle.runs_unseen.proofs.events_unseen.TaskLaws.{get_other, stack_at, stacks_set, tasks_set, worded_at, worded_none, zip_set}

-- both go on behind the group at which the running frame waits
pub goes_on : (content : ModuleContent) → IsSound content → (machinery : Machinery) (state : State) (extra : Extra) (all : AllWait content state extra) (answer : Datum) (word : ℕ)
    → IsAnswer extra.heap.stands (group_in (lines_at all.running.func state.running.block) all.running.place) answer word
    → Follows content machinery (resumed state answer) (gone_on (number word) (machine_of machinery state extra))
goes_on content sound machinery state extra all answer word is_answer =
    resumed_follows content sound machinery state extra all.objects all.settled all.running all.below all.tasks all.await answer word is_answer

-- ---- another task

module _ (content : ModuleContent) (machinery : Machinery) (state : State) (extra : Extra) (all : AllWait content state extra) (on_top : IsAwaiting None state.running)
    (to : ℕ) (frame : Frame) (below : List Frame) (there : slice_get state.tasks to ≡ Some (frame ∷ below)) where
  abbrev machine : Machine
  machine = machine_of machinery state extra

  abbrev task : ℕ
  task = state.task

  abbrev frames : List Frame
  frames = state.running ∷ state.below

  abbrev words : List FrameWords
  words = extra.running ∷ extra.below

  abbrev tasks_then : List (List Frame)
  tasks_then = set (set state.tasks task frames) to []

  abbrev pub state_then : State
  state_then = record state { running = frame; below = below; task = to; tasks = tasks_then }

  no_frames : (tasks : Option (List Frame)) → tasks ≡ Some [] → tasks ≡ Some (frame ∷ below) → ⊥
  no_frames tasks one other = cc

  apart : task ≡ to → ⊥
  apart same = no_frames (slice_get state.tasks to) (subst (λ (k : ℕ). slice_get state.tasks k ≡ Some []) same all.await.place) there

  awaits_at : (k : ℕ) (one : List Frame) → slice_get tasks_then k ≡ Some one → AreAwaiting None one
  awaits_at k one at = elim (get_set (set state.tasks task frames) to k [] one at) [
    | inl other ↦ elim (get_set state.tasks task k frames one other.1) [
      | inl old ↦ all_at (AreAwaiting None) state.tasks k one all.await.tasks old.1
      | inr own ↦ subst (AreAwaiting None) (sym own.1) (on_top, all.await.below)
    ]
    | inr new ↦ subst (AreAwaiting None) (sym new.1) tt
  ]

  not_empty : (first : Frame) (more : List Frame) → ◌≡◌ {A = List Frame} (first ∷ more) [] → ⊥
  not_empty first more is = cc

  begins_at : (first : Frame) (more : List Frame) → slice_get tasks_then 0 ≡ Some (first ∷ more) → began first.func more ≡ main_of content
  begins_at first more at = elim (get_set (set state.tasks task frames) to 0 [] (first ∷ more) at) [
    | inl other ↦ elim (get_set state.tasks task 0 frames (first ∷ more) other.1) [
      | inl old ↦ all.await.waits first more old.1
      | inr own ↦
          ap (λ (f : Frame). began f.func more) (first_same first state.running more state.below own.1)
          ∙ (ap (began state.running.func) (rest_same first state.running more state.below own.1) ∙ all.await.runs (sym own.0))
    ]
    | inr new ↦ absurd (not_empty first more new.1)
  ]

  awaits_then : AllAwait content frame.func below to tasks_then
  awaits_then = record {
    below = (all_at (AreAwaiting None) state.tasks to (frame ∷ below) all.await.tasks there).1;
    tasks = all_from_at (AreAwaiting None) tasks_then awaits_at;
    place = get_written (set state.tasks task frames) to (frame ∷ below) [] (get_other state.tasks task to frames apart ∙ there);
    runs = λ zero_is. all.await.waits frame below (subst (λ (k : ℕ). slice_get state.tasks k ≡ Some (frame ∷ below)) zero_is there);
    waits = begins_at;
  }

  -- the machine switches to the same task
  switched_with : (held : List FrameWords) → slice_get extra.tasks to ≡ Some held → AllZip (IsWaiting content extra.heap.stands) (frame ∷ below) held
      → (then : Extra) × AllWait content state_then then × (switched_machine machine to (slice_get machine.state.tasks to) ≡ machine_of machinery state_then then)
  switched_with [] at waiting = absurd waiting
  switched_with (first ∷ more) at waiting = (
    extra_then,
    record {
      objects = all.objects;
      settled = all.settled;
      running = waiting.0;
      below = waiting.1;
      tasks =
          zip_set (λ frames held. AllZip (IsWaiting content extra.heap.stands) frames held) (set state.tasks task frames) (set extra.tasks task words) to [] []
          (zip_set (λ frames held. AllZip (IsWaiting content extra.heap.stands) frames held) state.tasks extra.tasks task frames words all.tasks (all.running, all.below)) tt;
      await = awaits_then;
    },
    ap (switched_machine machine to) (worded_at state.tasks extra.tasks to (frame ∷ below) (first ∷ more) there at) ∙ machine_is,
  )
    where
      extra_then : Extra
      extra_then = record { running = first; below = more; tasks = set (set extra.tasks task words) to []; heap = extra.heap }

      tasks_are : set (set (worded_tasks state.tasks extra.tasks) task (worded_frames frames words)) to [] ≡ worded_tasks tasks_then (set (set extra.tasks task words) to [])
      tasks_are =
          ap (λ (ts : List (List Frame)). set ts to []) (tasks_set state.tasks extra.tasks task frames words)
          ∙ tasks_set (set state.tasks task frames) (set extra.tasks task words) to [] []

      stacks_are : set (set (stacks_of machinery (worded_tasks state.tasks extra.tasks) extra.tasks) task (stack_of machinery (worded_frames frames words) words)) to []
          ≡ stacks_of machinery (worded_tasks tasks_then (set (set extra.tasks task words) to [])) (set (set extra.tasks task words) to [])
      stacks_are =
          ap (λ (s : List (List ℕ)). set s to []) (stacks_set machinery (worded_tasks state.tasks extra.tasks) extra.tasks task (worded_frames frames words) words)
          ∙ (stacks_set machinery (set (worded_tasks state.tasks extra.tasks) task (worded_frames frames words)) (set extra.tasks task words) to [] []
          ∙ ap (λ (ts : List (List Frame)). stacks_of machinery ts (set (set extra.tasks task words) to [])) tasks_are)

      machine_is : switched_machine machine to (Some (worded_frames (frame ∷ below) (first ∷ more))) ≡ machine_of machinery state_then extra_then
      machine_is =
          machine_as (switched_to machine.state to (Some (worded_frames (frame ∷ below) (first ∷ more)))) (worded_state state_then extra_then)
          (get_or (stacks_of machinery (worded_tasks state.tasks extra.tasks) extra.tasks) to []) (stack_of machinery (worded_frames (frame ∷ below) (first ∷ more)) (first ∷ more))
          (set (set (stacks_of machinery (worded_tasks state.tasks extra.tasks) extra.tasks) task (stack_of machinery (worded_frames frames words) words)) to [])
          (stacks_of machinery (worded_tasks tasks_then (set (set extra.tasks task words) to [])) (set (set extra.tasks task words) to []))
          extra.heap
          (ap (λ (ts : List (List Frame)). record (worded_state state extra) { running = worded_frame frame first.words; below = worded_frames below more; task = to; tasks = ts }) tasks_are)
          (stack_at machinery (worded_tasks state.tasks extra.tasks) extra.tasks to (worded_frames (frame ∷ below) (first ∷ more)) (first ∷ more)
          (worded_at state.tasks extra.tasks to (frame ∷ below) (first ∷ more) there at) at)
          stacks_are

  pub switched_both : (then : Extra) × AllWait content state_then then × (switched_machine machine to (slice_get machine.state.tasks to) ≡ machine_of machinery state_then then)
  switched_both =
      let found = zip_at (λ frames held. AllZip (IsWaiting content extra.heap.stands) frames held) state.tasks extra.tasks to (frame ∷ below) all.tasks there in
      switched_with found.0 found.1 found.2

-- ---- the line of an event

module _ (content : ModuleContent) (sound : IsSound content) (machinery : Machinery) (state : State) (extra : Extra) (all : AllWait content state extra)
    (on_top : IsAwaiting None state.running) where
  stays : Follows content machinery (resumed state nothing) (gone_on nothing (machine_of machinery state extra))
  stays =
      goes_on content sound machinery state extra all nothing 0
      (nothing_answers extra.heap.stands (group_in (lines_at all.running.func state.running.block) all.running.place))

  goes_to : (to : ℕ) (found : Option (List Frame)) → slice_get state.tasks to ≡ found
      → Follows content machinery (resumed (switched_to state to found) nothing)
      (gone_on nothing (switched_machine (machine_of machinery state extra) to (slice_get (worded_tasks state.tasks extra.tasks) to)))
  goes_to to None there =
      subst (λ (found : Option (List Frame)). Follows content machinery (resumed state nothing) (gone_on nothing (switched_machine (machine_of machinery state extra) to found)))
      (sym (worded_none state.tasks extra.tasks to there)) stays
  goes_to to (Some []) there =
      let held = zip_at (λ frames held. AllZip (IsWaiting content extra.heap.stands) frames held) state.tasks extra.tasks to [] all.tasks there in
      subst (λ (found : Option (List Frame)). Follows content machinery (resumed state nothing) (gone_on nothing (switched_machine (machine_of machinery state extra) to found)))
      (sym (worded_at state.tasks extra.tasks to [] held.0 there held.1)) stays
  goes_to to (Some (frame ∷ below)) there =
      let both = switched_both content machinery state extra all on_top to frame below there in
      subst (λ (machine : Machine). Follows content machinery (resumed (state_then content machinery state extra all on_top to frame below there) nothing) (gone_on nothing machine)) (sym both.2)
      (goes_on content sound machinery (state_then content machinery state extra all on_top to frame below there) both.0 both.1 nothing 0
      (nothing_answers both.0.heap.stands (group_in (lines_at both.1.running.func frame.block) both.1.running.place)))

  pub goes_by : (go : Option ℕ)
      → Follows content machinery (resumed (option_map_or (switched state) go state) nothing)
      (gone_on nothing (option_map_or (λ to. switched_machine (machine_of machinery state extra) to (slice_get (machine_of machinery state extra).state.tasks to)) go (machine_of machinery state extra)))
  goes_by None = stays
  goes_by (Some to) = goes_to to (slice_get state.tasks to) refl
