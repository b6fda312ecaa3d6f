-- What keeps two states related.
use Rattle.std.proofs.Common.{◌≡◌, ℕ, zero, suc, List, [], ◌∷◌, ◌++◌, length, refl, ap}
use Rattle.std.specs.Prelude.{Option, Some, None, slice_get, slice_set, ℤ}
use Rattle.ir_ast.specs.Objects.{Object}
use Rattle.object_meaning.specs.States.{Frame, State}
use Rattle.object_meaning.specs.Tasks.{with_event, switched_to, switched}
use Rattle.rewriting_laws.specs.Related.{Rewriting, FrameKept, FramesKept, no_frames, more_frames, TasksKept, no_tasks, more_tasks, StateKept}

module _ (all : ℕ → Rewriting) where
  pub kept_length : (frames others : List Frame) → FramesKept all frames others → length others ≡ length frames
  kept_length _ _ no_frames = refl
  kept_length _ _ (more_frames frame now frames others one rest) = ap suc (kept_length frames others rest)

  pub tasks_length : (tasks others : List (List Frame)) → TasksKept all tasks others → length others ≡ length tasks
  tasks_length _ _ no_tasks = refl
  tasks_length _ _ (more_tasks task now tasks others one rest) = ap suc (tasks_length tasks others rest)

  -- a task by its number
  pub data TaskKept : Option (List Frame) → Option (List Frame) → Type 0 where
    no_task : TaskKept None None
    one_task : (frames others : List Frame) → FramesKept all frames others → TaskKept (Some frames) (Some others)

  pub task_get : (tasks others : List (List Frame)) (k : ℕ) → TasksKept all tasks others → TaskKept (slice_get tasks k) (slice_get others k)
  task_get _ _ k no_tasks = no_task
  task_get _ _ zero (more_tasks task now tasks others one rest) = one_task task now one
  task_get _ _ (suc k) (more_tasks task now tasks others one rest) = task_get tasks others k rest

  pub task_set : (tasks others : List (List Frame)) (k : ℕ) (task now : List Frame) → TasksKept all tasks others → FramesKept all task now
      → TasksKept all (slice_set tasks k task) (slice_set others k now)
  task_set _ _ k task now no_tasks one = no_tasks
  task_set _ _ zero task now (more_tasks old old_now tasks others old_one rest) one = more_tasks task now tasks others one rest
  task_set _ _ (suc k) task now (more_tasks old old_now tasks others old_one rest) one =
      more_tasks old old_now (slice_set tasks k task) (slice_set others k now) old_one (task_set tasks others k task now rest one)

  pub task_push : (tasks others : List (List Frame)) (task now : List Frame) → TasksKept all tasks others → FramesKept all task now
      → TasksKept all (tasks ++ task ∷ []) (others ++ now ∷ [])
  task_push _ _ task now no_tasks one = more_tasks task now [] [] one no_tasks
  task_push _ _ task now (more_tasks old old_now tasks others old_one rest) one =
      more_tasks old old_now (tasks ++ task ∷ []) (others ++ now ∷ []) old_one (task_push tasks others task now rest one)

  pub kept_event : (state now : State) → StateKept all state now → StateKept all (with_event state) (with_event now)
  kept_event state now kept = record { running = kept.running; below = kept.below; tasks = kept.tasks; is = ap with_event kept.is }

  pub kept_objects : (state now : State) (objects : List Object) → StateKept all state now → StateKept all (record state { objects = objects }) (record now { objects = objects })
  kept_objects state now objects kept = record {
    running = kept.running;
    below = kept.below;
    tasks = kept.tasks;
    is = ap (λ (x : State). let y : State = record x { objects = objects } in y) kept.is;
  }

  pub kept_input : (state now : State) (input : List ℤ) → StateKept all state now → StateKept all (record state { input = input }) (record now { input = input })
  kept_input state now input kept = record {
    running = kept.running;
    below = kept.below;
    tasks = kept.tasks;
    is = ap (λ (x : State). let y : State = record x { input = input } in y) kept.is;
  }

  pub kept_steps : (state now : State) (steps : ℕ) → StateKept all state now → StateKept all (record state { steps = steps }) (record now { steps = steps })
  kept_steps state now steps kept = record {
    running = kept.running;
    below = kept.below;
    tasks = kept.tasks;
    is = ap (λ (x : State). let y : State = record x { steps = steps } in y) kept.is;
  }

  -- another frame runs
  pub kept_frames : (state now : State) (frame frame' : Frame) (below below' : List Frame) (task : ℕ) (tasks tasks' : List (List Frame)) → StateKept all state now
      → FrameKept (all frame.func) frame frame' → FramesKept all below below' → TasksKept all tasks tasks'
      → StateKept all (record state { running = frame; below = below; task = task; tasks = tasks }) (record now { running = frame'; below = below'; task = task; tasks = tasks' })
  kept_frames state now frame frame' below below' task tasks tasks' kept one rest others = record {
    running = one;
    below = rest;
    tasks = others;
    is = ap (λ (x : State). let y : State = record x { running = frame'; below = below'; task = task; tasks = tasks' } in y) kept.is;
  }

  pub switched_kept : (state now : State) (to : ℕ) → StateKept all state now → StateKept all (switched state to) (switched now to)
  switched_kept state now to kept = go (slice_get state.tasks to) (slice_get now.tasks to) (task_get state.tasks now.tasks to kept.tasks)
    where
      same_task : now.task ≡ state.task
      same_task = ap (λ (x : State). x.task) kept.is

      go : (one other : Option (List Frame)) → TaskKept one other → StateKept all (switched_to state to one) (switched_to now to other)
      go _ _ no_task = kept
      go _ _ (one_task _ _ no_frames) = kept
      go _ _ (one_task _ _ (more_frames frame frame' below below' first rest)) =
          rw same_task
          (kept_frames state now frame frame' below below' to (slice_set (slice_set state.tasks state.task (state.running ∷ state.below)) to [])
          (slice_set (slice_set now.tasks state.task (now.running ∷ now.below)) to []) kept first rest
          (task_set (slice_set state.tasks state.task (state.running ∷ state.below)) (slice_set now.tasks state.task (now.running ∷ now.below)) to [] []
          (task_set state.tasks now.tasks state.task (state.running ∷ state.below) (now.running ∷ now.below) kept.tasks
          (more_frames state.running now.running state.below now.below kept.running kept.below))
          no_frames))
