-- Frames of two runs in pairs: those that run, and those that wait; stacks, tasks, states and effects of such frames.
use Rattle.std.proofs.Common.{◌≡◌, ℕ, zero, suc, List, [], ◌∷◌, ◌++◌, length, refl, ap}
use Rattle.std.specs.Prelude.{Option, Some, None, slice_get, slice_set}
use Rattle.sp_ids.specs.declared.ends.End.{End}
use Rattle.object_meaning.specs.Effects.{Effect, goes_on, prints, ends}
use Rattle.object_meaning.specs.States.{Frame, State}

-- the state whose frames are others
abbrev pub built : State → Frame → List Frame → List (List Frame) → State
built state running below tasks = record state { running = running; below = below; tasks = tasks }

-- `Runs` pairs frames that run, `Waits` those that wait
module _ (Runs Waits : Frame → Frame → Type 0) where
  pub data Stacks : List Frame → List Frame → Type 0 where
    no_frames : Stacks [] []
    more_frames : (frame there : Frame) (frames others : List Frame) → Waits frame there → Stacks frames others → Stacks (frame ∷ frames) (there ∷ others)

  pub data AllTasks : List (List Frame) → List (List Frame) → Type 0 where
    no_tasks : AllTasks [] []
    more_tasks : (task there : List Frame) (tasks others : List (List Frame)) → Stacks task there → AllTasks tasks others → AllTasks (task ∷ tasks) (there ∷ others)

  -- states whose running frames are paired so, and which are the same but for their frames
  pub data Paired (P : Frame → Frame → Type 0) : State → State → Type 0 where
    paired : (state : State) (running : Frame) (below : List Frame) (tasks : List (List Frame)) → P state.running running → Stacks state.below below
        → AllTasks state.tasks tasks → Paired P state (built state running below tasks)

  abbrev pub Goes : State → State → Type 0
  Goes = Paired Runs

  abbrev pub Stands : State → State → Type 0
  Stands = Paired Waits

  -- the last states of two runs
  pub record Lasts (state there : State) : Type 0 where
    pub func : there.running.func ≡ state.running.func
    pub steps : there.steps ≡ state.steps
    pub events : there.events ≡ state.events
    pub objects : there.objects ≡ state.objects
    pub below : Stacks state.below there.below

  pub data SameEffect : Effect State → Effect State → Type 0 where
    both_go : (state there : State) → Goes state there → SameEffect (goes_on state) (goes_on there)
    both_print : (word : ℕ) (state there : State) → Goes state there → SameEffect (prints word state) (prints word there)
    both_end : (end : End) (state there : State) → Lasts state there → SameEffect (ends end state) (ends end there)

  -- ---- frames and tasks by place

  pub stacks_length : (frames others : List Frame) → Stacks frames others → length others ≡ length frames
  stacks_length _ _ no_frames = refl
  stacks_length _ _ (more_frames frame there frames others one behind) = ap suc (stacks_length frames others behind)

  pub tasks_length : (tasks others : List (List Frame)) → AllTasks tasks others → length others ≡ length tasks
  tasks_length _ _ no_tasks = refl
  tasks_length _ _ (more_tasks task there tasks others one behind) = ap suc (tasks_length tasks others behind)

  pub data TaskAt : Option (List Frame) → Option (List Frame) → Type 0 where
    no_task : TaskAt None None
    one_task : (frames others : List Frame) → Stacks frames others → TaskAt (Some frames) (Some others)

  pub task_get : (tasks others : List (List Frame)) (place : ℕ) → AllTasks tasks others → TaskAt (slice_get tasks place) (slice_get others place)
  task_get _ _ place no_tasks = no_task
  task_get _ _ zero (more_tasks task there tasks others one behind) = one_task task there one
  task_get _ _ (suc place) (more_tasks task there tasks others one behind) = task_get tasks others place behind

  pub task_set : (tasks others : List (List Frame)) (place : ℕ) (task there : List Frame) → AllTasks tasks others → Stacks task there
      → AllTasks (slice_set tasks place task) (slice_set others place there)
  task_set _ _ place task there no_tasks one = no_tasks
  task_set _ _ zero task there (more_tasks old old_there tasks others old_one behind) one = more_tasks task there tasks others one behind
  task_set _ _ (suc place) task there (more_tasks old old_there tasks others old_one behind) one =
      more_tasks old old_there (slice_set tasks place task) (slice_set others place there) old_one (task_set tasks others place task there behind one)

  pub task_push : (tasks others : List (List Frame)) (task there : List Frame) → AllTasks tasks others → Stacks task there
      → AllTasks (tasks ++ task ∷ []) (others ++ there ∷ [])
  task_push _ _ task there no_tasks one = more_tasks task there [] [] one no_tasks
  task_push _ _ task there (more_tasks old old_there tasks others old_one behind) one =
      more_tasks old old_there (tasks ++ task ∷ []) (others ++ there ∷ []) old_one (task_push tasks others task there behind one)
