-- A state all of whose frames wait, the running one too, as it stands at a statepoint: what a walk over the stacks meets.
use Rattle.std.specs.Prelude.{◌≡◌, ℕ, List, [], ◌∷◌, length}
use Rattle.std.specs.List.{AllZip, slice_set}
use Rattle.ir_ast.specs.declared.ops.Callee.{Callee}
use Rattle.ir_ast.specs.declared.ops.Op.TheVariants.{Statepoint}
use Rattle.ir_ast.specs.declared.types.Ty.{Ty}
use Rattle.ir_ast.specs.Modules.{ModuleContent}
use Rattle.object_meaning.specs.Lines.{Line}
use Rattle.object_meaning.specs.States.{Frame, State}
use Rattle.machine_meaning.specs.Machines.{Machinery, all_frames, all_stacks, spilled}
use Rattle.machine_meaning.specs.Words.{worded}
use Rattle.moves_unseen.specs.Awaits.{TasksAwait}
use Rattle.moves_unseen.specs.Frames.{FrameWords, IsWaiting}
use Rattle.moves_unseen.specs.Objects.{AreHeld}
use Rattle.moves_unseen.specs.States.{Extra, IsRelated, machine_of, stacks_of, worded_tasks}
use Rattle.moves_unseen.specs.Waits.{IsSound, spilled_words}

-- the frames of all tasks by number, newest first, those of the running task among them, and what the machine has of them
abbrev pub frames_of_all : State → List (List Frame)
frames_of_all state = slice_set state.tasks state.task (state.running ∷ state.below)

abbrev pub words_of_all : State → Extra → List (List FrameWords)
words_of_all state extra = slice_set extra.tasks state.task (extra.running ∷ extra.below)

pub record AllFramesWait (content : ModuleContent) (state : State) (extra : Extra) : Type 0 where
  pub objects : AreHeld content.layouts state.objects extra.heap.stands extra.heap.contents
  pub settled : extra.heap.moves ≡ []
  pub running : IsWaiting content extra.heap.stands state.running extra.running
  pub below : AllZip (IsWaiting content extra.heap.stands) state.below extra.below
  pub tasks : AllZip (λ frames held. AllZip (IsWaiting content extra.heap.stands) frames held) state.tasks extra.tasks
  pub all : AllZip (λ frames held. AllZip (IsWaiting content extra.heap.stands) frames held) (frames_of_all state) (words_of_all state extra)
  pub await : TasksAwait content state

-- what the machine has of a state that waits at a statepoint with so many arguments: the words of live entries are in their slots
abbrev pub at_statepoint : Extra → Line → ℕ → Extra
at_statepoint extra line arguments = record extra { running = spilled_words extra.running line arguments }

pub record IsWaitingState (content : ModuleContent) (machinery : Machinery) (state : State) (extra : Extra) (line : Line) (arguments : ℕ) : Type 0 where
  pub waiting : AllFramesWait content state (at_statepoint extra line arguments)
  pub is : spilled (machine_of machinery state extra) (worded line).inst arguments ≡ machine_of machinery state (at_statepoint extra line arguments)

-- a related state that stands at a statepoint is one all of whose frames wait, once the machine has put the entries in their slots
abbrev pub StatesWait : Type 0
StatesWait = (content : ModuleContent) → IsSound content → (machinery : Machinery) (state : State) (extra : Extra) → IsRelated content state extra
    → (line : Line) (rest : List Line) → state.running.rest ≡ line ∷ rest → (id : ℕ) (callee : Callee) (types : List Ty) → line.inst.op ≡ Statepoint id callee types
    → IsWaitingState content machinery state extra line (length types)

-- the machine's frames and stacks of all tasks are those of the target meaning's frames
abbrev pub StacksAreAll : Type 0
StacksAreAll = (content : ModuleContent) (machinery : Machinery) (state : State) (extra : Extra) → AllFramesWait content state extra
    → (all_frames (machine_of machinery state extra) ≡ worded_tasks (frames_of_all state) (words_of_all state extra))
    × (all_stacks (machine_of machinery state extra) ≡ stacks_of machinery (worded_tasks (frames_of_all state) (words_of_all state extra)) (words_of_all state extra))
