-- The machine's state that belongs to a state of the target meaning: that state on words, and what the machine has besides.
use Rattle.std.specs.Prelude.{◌≡◌, ℕ, List, [], ◌∷◌, ◌++◌, map}
use Rattle.std.specs.List.{AllZip}
use Rattle.ir_ast.specs.Modules.{ModuleContent}
use Rattle.ir_ast.specs.Objects.{number}
use Rattle.moving_heap.specs.Heaps.{HeapView}
use Rattle.object_meaning.specs.States.{Frame, State}
use Rattle.machine_meaning.specs.Words.{worded}
use Rattle.machine_meaning.specs.Machines.{Machine, Machinery, return_address}
use Rattle.moves_unseen.specs.Objects.{AreHeld}
use Rattle.moves_unseen.specs.Frames.{FrameWords, IsRunning, IsWaiting}
use Rattle.moves_unseen.specs.Awaits.{TasksAwait}

pub record Extra : Type 0 where
  pub running : FrameWords
  pub below : List FrameWords
  pub tasks : List (List FrameWords)
  pub heap : HeapView

-- ---- the machine's state

abbrev pub worded_frame : Frame → List ℕ → Frame
worded_frame frame words = record frame { rest = map worded frame.rest; registers = map number words }

abbrev pub worded_frames : List Frame → List FrameWords → List Frame
worded_frames (frame ∷ frames) (held ∷ more) = worded_frame frame held.words ∷ worded_frames frames more
worded_frames _ _ = []

abbrev pub worded_tasks : List (List Frame) → List (List FrameWords) → List (List Frame)
worded_tasks (frames ∷ tasks) (held ∷ more) = worded_frames frames held ∷ worded_tasks tasks more
worded_tasks _ _ = []

-- a frame returns behind the call at which the frame below it stands, or to 0
abbrev pub return_below : Machinery → List Frame → ℕ
return_below machinery [] = 0
return_below machinery (frame ∷ below) = return_address machinery frame

-- the stack of a task: each frame's slots and its return word
abbrev pub stack_of : Machinery → List Frame → List FrameWords → List ℕ
stack_of machinery (frame ∷ below) (held ∷ more) = held.slots ++ return_below machinery below ∷ stack_of machinery below more
stack_of machinery _ _ = []

abbrev pub stacks_of : Machinery → List (List Frame) → List (List FrameWords) → List (List ℕ)
stacks_of machinery (frames ∷ tasks) (held ∷ more) = stack_of machinery frames held ∷ stacks_of machinery tasks more
stacks_of machinery _ _ = []

abbrev pub worded_state : State → Extra → State
worded_state state extra = record state {
  running = worded_frame state.running extra.running.words;
  below = worded_frames state.below extra.below;
  tasks = worded_tasks state.tasks extra.tasks;
  objects = [];
}

abbrev pub machine_of : Machinery → State → Extra → Machine
machine_of machinery state extra =
    let worded_now = worded_state state extra in record {
      state = worded_now;
      stack = stack_of machinery (worded_now.running ∷ worded_now.below) (extra.running ∷ extra.below);
      stacks = stacks_of machinery worded_now.tasks extra.tasks;
      heap = extra.heap;
    }

-- ---- the relation

pub record IsRelated (content : ModuleContent) (state : State) (extra : Extra) : Type 0 where
  pub objects : AreHeld content.layouts state.objects extra.heap.stands extra.heap.contents
  pub settled : extra.heap.moves ≡ []
  pub running : IsRunning content state.objects extra.heap.stands state.running extra.running
  pub below : AllZip (IsWaiting content extra.heap.stands) state.below extra.below
  pub tasks : AllZip (λ frames held. AllZip (IsWaiting content extra.heap.stands) frames held) state.tasks extra.tasks
  pub await : TasksAwait content state

-- the machine is the target meaning's state on words
pub record Follows (content : ModuleContent) (machinery : Machinery) (state : State) (machine : Machine) : Type 0 where
  pub extra : Extra
  pub is : machine ≡ machine_of machinery state extra
  pub related : IsRelated content state extra
