-- Frames, states and effects of a run, and those of the run of its lines' images at the same moment.
use Rattle.std.proofs.Common.{◌≡◌, ℕ, zero, suc, List, [], ◌∷◌, ◌++◌, length, refl, ap}
use Rattle.std.specs.Prelude.{Option, Some, None, slice_get, slice_set}
use Rattle.sp_ids.specs.declared.ends.End.{End}
use Rattle.ir_ast.specs.Objects.{Datum}
use Rattle.object_meaning.specs.Effects.{Effect, goes_on, prints, ends}
use Rattle.object_meaning.specs.Lines.{Line}
use Rattle.object_meaning.specs.States.{Frame, State}
use Rattle.renaming_laws.specs.Renamed.{IsLineOf, Renaming, renamed_line}
use Rattle.renaming_laws.specs.Images.{Images}
use Rattle.renaming_laws.proofs.RegisterLaws.{Kept}

-- the frame at other lines, with other registers
abbrev pub image : Frame → List Line → List Datum → Frame
image frame rest now = record frame { rest = rest; registers = now }

abbrev pub at_line : Frame → Line → List Line → Frame
at_line frame line rest = record frame { rest = line ∷ rest }

module _ (functions : ℕ → Renaming) where
  abbrev pub line_there : Frame → Option (List ℕ) → Line → Line
  line_there frame name line = renamed_line (functions frame.func).number name line

  -- a frame that runs, wherever it stands
  pub record FrameKept (frame : Frame) (rest : List Line) (now : List Datum) : Type 0 where
    pub images : Images functions frame.func frame.rest rest
    pub kept : Kept (functions frame.func) frame.registers now

  -- a frame that stands at a line whose image is that line alone: a call, a poll or a `task_start`
  pub record WaitKept (frame : Frame) (line : Line) (rest others : List Line) (now : List Datum) : Type 0 where
    pub of : IsLineOf functions frame.func line
    pub images : Images functions frame.func rest others
    pub kept : Kept (functions frame.func) frame.registers now

  pub data FramesKept : List Frame → List Frame → Type 0 where
    no_frames : FramesKept [] []
    more_frames : (frame : Frame) (line : Line) (name : Option (List ℕ)) (rest others : List Line) (now : List Datum) (frames images : List Frame)
        → WaitKept frame line rest others now → FramesKept frames images
        → FramesKept (at_line frame line rest ∷ frames) (image frame (line_there frame name line ∷ others) now ∷ images)

  pub data TasksKept : List (List Frame) → List (List Frame) → Type 0 where
    no_tasks : TasksKept [] []
    more_tasks : (task there : List Frame) (tasks others : List (List Frame)) → FramesKept task there → TasksKept tasks others
        → TasksKept (task ∷ tasks) (there ∷ others)

  -- the state whose frames are others
  abbrev pub built : State → Frame → List Frame → List (List Frame) → State
  built state running below tasks = record state { running = running; below = below; tasks = tasks }

  -- a running frame, and its image
  pub data FrameGoes : Frame → Frame → Type 0 where
    frame_goes : (frame : Frame) (rest : List Line) (now : List Datum) → FrameKept frame rest now → FrameGoes frame (image frame rest now)

  pub data Goes : State → State → Type 0 where
    goes : (state : State) (running : Frame) (below : List Frame) (tasks : List (List Frame)) → FrameGoes state.running running
        → FramesKept state.below below → TasksKept state.tasks tasks → Goes state (built state running below tasks)

  -- the running frame stands as those that wait
  pub data Waits : State → State → Type 0 where
    waits : (state : State) (line : Line) (name : Option (List ℕ)) (rest others : List Line) (now : List Datum) (below : List Frame) (tasks : List (List Frame))
        → WaitKept state.running line rest others now → FramesKept state.below below → TasksKept state.tasks tasks
        → Waits (record state { running = at_line state.running line rest })
        (built state (image state.running (line_there state.running name line ∷ others) now) below tasks)

  -- the last states of two runs
  pub record Lasts (state there : State) : Type 0 where
    pub func : there.running.func ≡ state.running.func
    pub steps : there.steps ≡ state.steps
    pub events : there.events ≡ state.events
    pub objects : there.objects ≡ state.objects
    pub below : FramesKept state.below there.below

  pub data EffectKept : Effect State → Effect State → Type 0 where
    both_go : (state there : State) → Goes state there → EffectKept (goes_on state) (goes_on there)
    both_print : (word : ℕ) (state there : State) → Goes state there → EffectKept (prints word state) (prints word there)
    both_end : (end : End) (state there : State) → Lasts state there → EffectKept (ends end state) (ends end there)

  -- ---- frames and tasks by place

  pub frames_length : (frames images : List Frame) → FramesKept frames images → length images ≡ length frames
  frames_length _ _ no_frames = refl
  frames_length _ _ (more_frames frame line name rest others now frames images kept behind) = ap suc (frames_length frames images behind)

  pub tasks_length : (tasks others : List (List Frame)) → TasksKept tasks others → length others ≡ length tasks
  tasks_length _ _ no_tasks = refl
  tasks_length _ _ (more_tasks task there tasks others one behind) = ap suc (tasks_length tasks others behind)

  pub data TaskKept : Option (List Frame) → Option (List Frame) → Type 0 where
    no_task : TaskKept None None
    one_task : (frames others : List Frame) → FramesKept frames others → TaskKept (Some frames) (Some others)

  pub task_get : (tasks others : List (List Frame)) (place : ℕ) → TasksKept tasks others → TaskKept (slice_get tasks place) (slice_get others place)
  task_get _ _ place no_tasks = no_task
  task_get _ _ zero (more_tasks task there tasks others one behind) = one_task task there one
  task_get _ _ (suc place) (more_tasks task there tasks others one behind) = task_get tasks others place behind

  pub task_set : (tasks others : List (List Frame)) (place : ℕ) (task there : List Frame) → TasksKept tasks others → FramesKept task there
      → TasksKept (slice_set tasks place task) (slice_set others place there)
  task_set _ _ place task there no_tasks one = no_tasks
  task_set _ _ zero task there (more_tasks old old_there tasks others old_one behind) one = more_tasks task there tasks others one behind
  task_set _ _ (suc place) task there (more_tasks old old_there tasks others old_one behind) one =
      more_tasks old old_there (slice_set tasks place task) (slice_set others place there) old_one (task_set tasks others place task there behind one)

  pub task_push : (tasks others : List (List Frame)) (task there : List Frame) → TasksKept tasks others → FramesKept task there
      → TasksKept (tasks ++ task ∷ []) (others ++ there ∷ [])
  task_push _ _ task there no_tasks one = more_tasks task there [] [] one no_tasks
  task_push _ _ task there (more_tasks old old_there tasks others old_one behind) one =
      more_tasks old old_there (tasks ++ task ∷ []) (others ++ there ∷ []) old_one (task_push tasks others task there behind one)
