-- The moves of an event, where all frames of all tasks wait: no frame is lost, all frames wait after them, and each cell holds
-- what it held.
use Rattle.std.proofs.Common.{◌≡◌, ℕ, List, [], ◌∷◌, get_or, set, map, refl, sym, ap, ◌∙◌, subst, Option, Some, Result, Ok, ◌⊎◌, inl, inr}
use Rattle.std.specs.Prelude.{slice_get}
use Rattle.std.specs.List.{AllZip}
use Rattle.std.proofs.lemmas.Option.{same_Some}
use Rattle.list_laws.proofs.Places.{get_written}
use Rattle.ir_ast.specs.Modules.{ModuleContent}
use Rattle.move_plan.specs.declared.plan_lines.Move.{Move}
use Rattle.move_plan.specs.declared.plan_lines.PlanLine.{PlanLine}
use Rattle.moving_heap.specs.declared.stands.Moved.{Moved}
use Rattle.moving_heap.specs.declared.stands.Stand.{Stand}
use Rattle.moving_heap.specs.Heaps.{HeapView}
use Rattle.moving_heap.specs.Places.{carried, group_moves}
use Rattle.moving_heap.specs.Settled.{AreSettled}
use Rattle.object_meaning.specs.Effects.{Effect}
use Rattle.object_meaning.specs.States.{Frame, State}
use Rattle.stackmap_write.specs.ModuleMaps.{map_of}
use Rattle.machine_meaning.specs.Code.{machinery_of}
use Rattle.machine_meaning.specs.EventPlaces.{flip_of}
use Rattle.machine_meaning.specs.Machines.{Machine, Machinery, all_frames, all_stacks}
use Rattle.machine_meaning.specs.Moving.{after_walk, joined, moved_by, moved_heap, moves_due, walked_all, walked_tasks}
use Rattle.moves_unseen.specs.Awaits.{TasksAwait}
use Rattle.moves_unseen.specs.Frames.{FrameWords, IsWaiting}
use Rattle.moves_unseen.specs.Objects.{AreHeld}
use Rattle.moves_unseen.specs.States.{Extra, machine_of, stack_of, stacks_of, worded_frame, worded_frames, worded_state, worded_tasks}
use Rattle.moves_unseen.specs.Waits.{IsSound}
use Rattle.moves_unseen.proofs.HeapLaws.{group_held}
use Rattle.runs_unseen.proofs.stacks_walked.WalkLaws.{stacks_walked}
use Rattle.runs_unseen.proofs.events_unseen.TaskLaws.{set_back, stack_at, stacks_set, tasks_set, worded_at, zip_set}
use Rattle.list_laws.proofs.Contents.{first_same, rest_same}
use Rattle.list_laws.proofs.Zips.{zip_at}

-- a state whose running frame waits too, at its statepoint
pub record AllWait (content : ModuleContent) (state : State) (extra : Extra) : Type 0 where
  pub objects : AreHeld content.layouts state.objects extra.heap.stands extra.heap.contents
  pub settled : extra.heap.moves ≡ []
  pub running : IsWaiting content extra.heap.stands state.running extra.running
  pub below : AllZip (IsWaiting content extra.heap.stands) state.below extra.below
  pub tasks : AllZip (λ frames held. AllZip (IsWaiting content extra.heap.stands) frames held) state.tasks extra.tasks
  pub await : TasksAwait content state

none_or_some : {A : Type 0} (xs : List A) → (xs ≡ []) ⊎ (xs ≡ [] → ⊥)
none_or_some [] = inl refl
none_or_some (x ∷ xs) = inr (λ is. absurd cc)

moved_some : (machinery : Machinery) (moves : List Moved) (machine : Machine) (next : Machine → Effect Machine) → (moves ≡ [] → ⊥)
    → moved_by machinery moves machine next ≡ after_walk moves machine (walked_all machinery moves machine) next
moved_some machinery [] machine next some = absurd (some refl)
moved_some machinery (move ∷ moves) machine next some = refl

pub state_as : (state : State) (running other_running : Frame) (below other_below : List Frame) (tasks other_tasks : List (List Frame)) → running ≡ other_running → below ≡ other_below → tasks ≡ other_tasks
    → ◌≡◌ {A = State} (record state { running = running; below = below; tasks = tasks; objects = [] }) (record state { running = other_running; below = other_below; tasks = other_tasks; objects = [] })
state_as state running other_running below other_below tasks other_tasks one two three =
    ap (λ (f : Frame). record state { running = f; below = below; tasks = tasks; objects = [] }) one
    ∙ (ap (λ (fs : List Frame). record state { running = other_running; below = fs; tasks = tasks; objects = [] }) two
    ∙ ap (λ (ts : List (List Frame)). record state { running = other_running; below = other_below; tasks = ts; objects = [] }) three)

pub machine_as : (state other : State) (stack other_stack : List ℕ) (stacks other_stacks : List (List ℕ)) (heap : HeapView) → state ≡ other → stack ≡ other_stack → stacks ≡ other_stacks
    → ◌≡◌ {A = Machine} (record { state = state; stack = stack; stacks = stacks; heap = heap }) (record { state = other; stack = other_stack; stacks = other_stacks; heap = heap })
machine_as state other stack other_stack stacks other_stacks heap one two three =
    ap (λ (s : State). record { state = s; stack = stack; stacks = stacks; heap = heap }) one
    ∙ (ap (λ (s : List ℕ). record { state = other; stack = s; stacks = stacks; heap = heap }) two
    ∙ ap (λ (s : List (List ℕ)). record { state = other; stack = other_stack; stacks = s; heap = heap }) three)

-- ---- the walk over the stacks of all tasks

module _ (content : ModuleContent) (sound : IsSound content) (plan : List PlanLine) (bound : ℕ) (stands : List Stand) (settled : AreSettled stands)
    (lines : List Move) (flip : Option ℕ) (some : group_moves stands lines flip ≡ [] → ⊥) where
  abbrev the_machinery : Machinery
  the_machinery = machinery_of content (map_of content) plan bound

  abbrev moves : List Moved
  moves = group_moves stands lines flip

  pub record TasksWalked (tasks : List (List Frame)) (helds : List (List FrameWords)) : Type 0 where
    pub after : List (List FrameWords)
    pub is : walked_tasks the_machinery moves (worded_tasks tasks helds) (stacks_of the_machinery (worded_tasks tasks helds) helds) ≡ Ok (stacks_of the_machinery (worded_tasks tasks helds) after)
    pub same : worded_tasks tasks after ≡ worded_tasks tasks helds
    pub waiting : AllZip (λ frames held. AllZip (IsWaiting content (map (carried moves) stands)) frames held) tasks after

  pub tasks_walked : (tasks : List (List Frame)) (helds : List (List FrameWords)) → AllZip (λ frames held. AllZip (IsWaiting content stands) frames held) tasks helds → TasksWalked tasks helds
  tasks_walked [] [] waiting = record { after = []; is = refl; same = refl; waiting = tt }
  tasks_walked [] (held ∷ helds) waiting = absurd waiting
  tasks_walked (frames ∷ tasks) [] waiting = absurd waiting
  tasks_walked (frames ∷ tasks) (held ∷ helds) waiting =
      let one = stacks_walked content sound plan bound stands settled lines flip some frames held waiting.0 in
      let more = tasks_walked tasks helds waiting.1 in
      record {
        after = one.after ∷ more.after;
        is =
            ap (λ (r : Result (List ℕ) ℕ). joined r (walked_tasks the_machinery moves (worded_tasks tasks helds) (stacks_of the_machinery (worded_tasks tasks helds) helds))) one.is
            ∙ ap (joined (Ok (stack_of the_machinery (worded_frames frames held) one.after))) more.is;
        same = ap (λ (first : List Frame). first ∷ worded_tasks tasks more.after) one.same ∙ ap (λ (rest : List (List Frame)). worded_frames frames held ∷ rest) more.same;
        waiting = (one.waiting, more.waiting);
      }

-- ---- an event

module _ (content : ModuleContent) (sound : IsSound content) (plan : List PlanLine) (bound : ℕ) (state : State) (extra : Extra) (all : AllWait content state extra) where
  abbrev machinery : Machinery
  machinery = machinery_of content (map_of content) plan bound

  abbrev machine : Machine
  machine = machine_of machinery state extra

  abbrev stands : List Stand
  stands = extra.heap.stands

  abbrev lines : List Move
  lines = machinery.plan.group state.events

  abbrev flip : Option ℕ
  flip = flip_of machinery.plan state.events

  abbrev due : List Moved
  due = moves_due machinery extra.heap state.events

  -- the machine after the moves has other words of the same frames, all of which wait
  pub record HasMoved : Type 0 where
    pub after : Extra
    pub is : (next : Machine → Effect Machine) → moved_by machinery due machine next ≡ next (machine_of machinery state after)
    pub waits : AllWait content state after

  abbrev task : ℕ
  task = state.task

  abbrev frames : List Frame
  frames = state.running ∷ state.below

  abbrev words : List FrameWords
  words = extra.running ∷ extra.below

  abbrev all_tasks : List (List Frame)
  all_tasks = set state.tasks task frames

  abbrev all_words : List (List FrameWords)
  all_words = set extra.tasks task words

  frames_are : all_frames machine ≡ worded_tasks all_tasks all_words
  frames_are = tasks_set state.tasks extra.tasks task frames words

  stacks_are : all_stacks machine ≡ stacks_of machinery (worded_tasks all_tasks all_words) all_words
  stacks_are =
      stacks_set machinery (worded_tasks state.tasks extra.tasks) extra.tasks task (worded_frames frames words) words
      ∙ ap (λ (ts : List (List Frame)). stacks_of machinery ts all_words) frames_are

  own_frames : slice_get all_tasks task ≡ Some frames
  own_frames = get_written state.tasks task [] frames all.await.place

  own_words : slice_get all_words task ≡ Some words
  own_words = let there = zip_at (λ frames held. AllZip (IsWaiting content stands) frames held) state.tasks extra.tasks task [] all.tasks all.await.place in
      get_written extra.tasks task there.0 words there.1

  none_held : (held : List FrameWords) → AllZip (IsWaiting content stands) [] held → held ≡ []
  none_held [] none = refl
  none_held (one ∷ held) none = absurd none

  -- the running task has no words among the others
  no_words : slice_get extra.tasks task ≡ Some []
  no_words =
      let there = zip_at (λ frames held. AllZip (IsWaiting content stands) frames held) state.tasks extra.tasks task [] all.tasks all.await.place in
      there.1 ∙ ap Some (none_held there.0 there.2)

  tasks_back : set all_tasks task [] ≡ state.tasks
  tasks_back = set_back state.tasks task [] frames all.await.place

  words_back : set all_words task [] ≡ extra.tasks
  words_back = set_back extra.tasks task [] words no_words

  all_waiting : AllZip (λ frames held. AllZip (IsWaiting content stands) frames held) all_tasks all_words
  all_waiting = zip_set (λ frames held. AllZip (IsWaiting content stands) frames held) state.tasks extra.tasks task frames words all.tasks (all.running, all.below)

  module _ (some : due ≡ [] → ⊥) where
    walked : TasksWalked content sound plan bound stands all.objects.settled lines flip some all_tasks all_words
    walked = tasks_walked content sound plan bound stands all.objects.settled lines flip some all_tasks all_words all_waiting

    abbrev now : List Stand
    now = map (carried due) stands

    abbrev stacks : List (List ℕ)
    stacks = stacks_of machinery (worded_tasks all_tasks all_words) walked.after

    walk_is : walked_all machinery due machine ≡ Ok stacks
    walk_is =
        ap (λ (ts : List (List Frame)). walked_tasks machinery due ts (all_stacks machine)) frames_are
        ∙ (ap (walked_tasks machinery due (worded_tasks all_tasks all_words)) stacks_are ∙ walked.is)

    -- the other tasks have the same frames
    others_same : worded_tasks state.tasks extra.tasks ≡ worded_tasks state.tasks (set walked.after task [])
    others_same =
        ap (λ (ts : List (List Frame)). worded_tasks ts extra.tasks) (sym tasks_back)
        ∙ (ap (worded_tasks (set all_tasks task [])) (sym words_back)
        ∙ (sym (tasks_set all_tasks all_words task [] [])
        ∙ (ap (λ (ts : List (List Frame)). set ts task []) (sym walked.same)
        ∙ (tasks_set all_tasks walked.after task [] []
        ∙ ap (λ (ts : List (List Frame)). worded_tasks ts (set walked.after task [])) tasks_back))))

    moved_with : (held : List FrameWords) → slice_get walked.after task ≡ Some held → AllZip (IsWaiting content now) frames held → HasMoved
    moved_with [] at waiting = absurd waiting
    moved_with (first ∷ more) at waiting = record {
      after = after;
      is = λ next.
          moved_some machinery due machine next some
          ∙ (ap (λ (r : Result (List (List ℕ)) ℕ). after_walk due machine r next) walk_is
          ∙ ap next (machine_as (worded_state state extra) (worded_state state after) (get_or stacks task []) (stack_of machinery (worded_frames frames (first ∷ more)) (first ∷ more))
          (set stacks task []) (stacks_of machinery (worded_tasks state.tasks (set walked.after task [])) (set walked.after task [])) (moved_heap due extra.heap)
          states stack_is others_are));
      waits = record {
        objects = group_held content.layouts state.objects stands extra.heap.contents all.objects lines flip some;
        settled = refl;
        running = waiting.0;
        below = waiting.1;
        tasks =
            subst (λ (ts : List (List Frame)). AllZip (λ frames held. AllZip (IsWaiting content now) frames held) ts (set walked.after task [])) tasks_back
            (zip_set (λ frames held. AllZip (IsWaiting content now) frames held) all_tasks walked.after task [] [] walked.waiting tt);
        await = all.await;
      };
    }
      where
        after : Extra
        after = record { running = first; below = more; tasks = set walked.after task []; heap = moved_heap due extra.heap }

        own_same : worded_frames frames (first ∷ more) ≡ worded_frames frames words
        own_same =
            same_Some (worded_frames frames (first ∷ more)) (worded_frames frames words)
            (sym (worded_at all_tasks walked.after task frames (first ∷ more) own_frames at)
            ∙ (ap (λ (ts : List (List Frame)). slice_get ts task) walked.same ∙ worded_at all_tasks all_words task frames words own_frames own_words))

        states : worded_state state extra ≡ worded_state state after
        states =
            state_as state (worded_frame state.running extra.running.words) (worded_frame state.running first.words) (worded_frames state.below extra.below) (worded_frames state.below more)
            (worded_tasks state.tasks extra.tasks) (worded_tasks state.tasks (set walked.after task []))
            (sym (first_same (worded_frame state.running first.words) (worded_frame state.running extra.running.words) (worded_frames state.below more) (worded_frames state.below extra.below) own_same))
            (sym (rest_same (worded_frame state.running first.words) (worded_frame state.running extra.running.words) (worded_frames state.below more) (worded_frames state.below extra.below) own_same))
            others_same

        stack_is : get_or stacks task [] ≡ stack_of machinery (worded_frames frames (first ∷ more)) (first ∷ more)
        stack_is =
            stack_at machinery (worded_tasks all_tasks all_words) walked.after task (worded_frames frames words) (first ∷ more)
            (worded_at all_tasks all_words task frames words own_frames own_words) at
            ∙ ap (λ (fs : List Frame). stack_of machinery fs (first ∷ more)) (sym own_same)

        others_are : set stacks task [] ≡ stacks_of machinery (worded_tasks state.tasks (set walked.after task [])) (set walked.after task [])
        others_are =
            stacks_set machinery (worded_tasks all_tasks all_words) walked.after task [] []
            ∙ ap (λ (ts : List (List Frame)). stacks_of machinery ts (set walked.after task []))
            (tasks_set all_tasks all_words task [] []
            ∙ (ap (worded_tasks (set all_tasks task [])) words_back
            ∙ (ap (λ (ts : List (List Frame)). worded_tasks ts extra.tasks) tasks_back ∙ others_same)))

    moves_made : HasMoved
    moves_made =
        let there = zip_at (λ frames held. AllZip (IsWaiting content now) frames held) all_tasks walked.after task frames walked.waiting own_frames in
        moved_with there.0 there.1 there.2

  -- the moves of an event are made
  pub has_moved : HasMoved
  has_moved = elim (none_or_some due) [
    | inl none ↦ record { after = extra; is = λ next. ap (λ (moves : List Moved). moved_by machinery moves machine next) none; waits = all }
    | inr some ↦ moves_made some
  ]
