-- Lists of frames and of tasks, and what the machine has of them.
use Rattle.std.proofs.Common.{◌≡◌, ℕ, zero, suc, List, [], ◌∷◌, ◌++◌, length, set, refl, ap}
use Rattle.std.specs.List.{AllZip}
use Rattle.object_meaning.specs.States.{Frame}
use Rattle.machine_meaning.specs.Machines.{Machinery}
use Rattle.moves_unseen.specs.Frames.{FrameWords}
use Rattle.moves_unseen.specs.States.{stack_of, stacks_of, worded_frames, worded_tasks}

-- ---- two lists of one length

pub zip_set : {A B : Type 0} (R : A → B → Type 0) (xs : List A) (ys : List B) (at : ℕ) (x : A) (y : B) → AllZip R xs ys → R x y → AllZip R (set xs at x) (set ys at y)
zip_set R [] [] at x y all one = tt
zip_set R [] (other ∷ ys) at x y all one = absurd all
zip_set R (first ∷ xs) [] at x y all one = absurd all
zip_set R (first ∷ xs) (other ∷ ys) zero x y all one = (one, all.1)
zip_set R (first ∷ xs) (other ∷ ys) (suc at) x y all one = (all.0, zip_set R xs ys at x y all.1 one)

pub frame_count : (R : Frame → FrameWords → Type 0) (frames : List Frame) (helds : List FrameWords) → AllZip R frames helds → length (worded_frames frames helds) ≡ length frames
frame_count R [] [] all = refl
frame_count R [] (held ∷ helds) all = absurd all
frame_count R (frame ∷ frames) [] all = absurd all
frame_count R (frame ∷ frames) (held ∷ helds) all = ap suc (frame_count R frames helds all.1)

module _ (R : List Frame → List FrameWords → Type 0) where
  pub task_count : (tasks : List (List Frame)) (helds : List (List FrameWords)) → AllZip R tasks helds → length (worded_tasks tasks helds) ≡ length tasks
  task_count [] [] all = refl
  task_count [] (held ∷ helds) all = absurd all
  task_count (frames ∷ tasks) [] all = absurd all
  task_count (frames ∷ tasks) (held ∷ helds) all = ap suc (task_count tasks helds all.1)

  -- ---- a task's frames are replaced, and a task is added

  pub tasks_set : (tasks : List (List Frame)) (helds : List (List FrameWords)) (at : ℕ) (frames : List Frame) (held : List FrameWords) → AllZip R tasks helds
      → worded_tasks (set tasks at frames) (set helds at held) ≡ set (worded_tasks tasks helds) at (worded_frames frames held)
  tasks_set [] [] at frames held all = refl
  tasks_set [] (other ∷ helds) at frames held all = absurd all
  tasks_set (first ∷ tasks) [] at frames held all = absurd all
  tasks_set (first ∷ tasks) (other ∷ helds) zero frames held all = refl
  tasks_set (first ∷ tasks) (other ∷ helds) (suc at) frames held all = ap (λ (more : List (List Frame)). worded_frames first other ∷ more) (tasks_set tasks helds at frames held all.1)

  pub tasks_end : (tasks : List (List Frame)) (helds : List (List FrameWords)) (frames : List Frame) (held : List FrameWords) → AllZip R tasks helds
      → worded_tasks (tasks ++ frames ∷ []) (helds ++ held ∷ []) ≡ worded_tasks tasks helds ++ worded_frames frames held ∷ []
  tasks_end [] [] frames held all = refl
  tasks_end [] (other ∷ helds) frames held all = absurd all
  tasks_end (first ∷ tasks) [] frames held all = absurd all
  tasks_end (first ∷ tasks) (other ∷ helds) frames held all = ap (λ (more : List (List Frame)). worded_frames first other ∷ more) (tasks_end tasks helds frames held all.1)

  pub stacks_set : (machinery : Machinery) (tasks : List (List Frame)) (helds : List (List FrameWords)) (at : ℕ) (frames : List Frame) (held : List FrameWords) → AllZip R tasks helds
      → stacks_of machinery (worded_tasks (set tasks at frames) (set helds at held)) (set helds at held)
      ≡ set (stacks_of machinery (worded_tasks tasks helds) helds) at (stack_of machinery (worded_frames frames held) held)
  stacks_set machinery [] [] at frames held all = refl
  stacks_set machinery [] (other ∷ helds) at frames held all = absurd all
  stacks_set machinery (first ∷ tasks) [] at frames held all = absurd all
  stacks_set machinery (first ∷ tasks) (other ∷ helds) zero frames held all = refl
  stacks_set machinery (first ∷ tasks) (other ∷ helds) (suc at) frames held all =
      ap (λ (more : List (List ℕ)). stack_of machinery (worded_frames first other) other ∷ more) (stacks_set machinery tasks helds at frames held all.1)

  pub stacks_end : (machinery : Machinery) (tasks : List (List Frame)) (helds : List (List FrameWords)) (frames : List Frame) (held : List FrameWords) → AllZip R tasks helds
      → stacks_of machinery (worded_tasks (tasks ++ frames ∷ []) (helds ++ held ∷ [])) (helds ++ held ∷ [])
      ≡ stacks_of machinery (worded_tasks tasks helds) helds ++ stack_of machinery (worded_frames frames held) held ∷ []
  stacks_end machinery [] [] frames held all = refl
  stacks_end machinery [] (other ∷ helds) frames held all = absurd all
  stacks_end machinery (first ∷ tasks) [] frames held all = absurd all
  stacks_end machinery (first ∷ tasks) (other ∷ helds) frames held all =
      ap (λ (more : List (List ℕ)). stack_of machinery (worded_frames first other) other ∷ more) (stacks_end machinery tasks helds frames held all.1)
