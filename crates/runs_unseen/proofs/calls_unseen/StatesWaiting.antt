-- A related state that stands at a statepoint is one all of whose frames wait.
use Rattle.std.proofs.Common.{List, ◌∷◌, length, sym}
use Rattle.std.specs.List.{AllZip}
use Rattle.object_meaning.specs.States.{Frame}
use Rattle.moves_unseen.specs.Frames.{FrameWords, IsWaiting}
use Rattle.moves_unseen.specs.Waits.{RunningFramesWait, SpillsAre, spilled_words}
use Rattle.runs_unseen.specs.WaitingStates.{StacksAreAll, StatesWait}
use Rattle.runs_unseen.proofs.calls_unseen.TaskLists.{stacks_set, tasks_set, zip_set}

pub states_wait : RunningFramesWait → SpillsAre → StatesWait
states_wait frames_wait spills_are content sound machinery state extra related line rest is id callee types op_is =
    let running = frames_wait content sound state.objects extra.heap.stands state.running extra.running related.running line rest is id callee types op_is in
    record {
      waiting = record {
        objects = related.objects;
        settled = related.settled;
        running = running;
        below = related.below;
        tasks = related.tasks;
        all = zip_set (λ (frames : List Frame) (held : List FrameWords). AllZip (IsWaiting content extra.heap.stands) frames held) state.tasks extra.tasks state.task
            (state.running ∷ state.below) (spilled_words extra.running line (length types) ∷ extra.below) related.tasks (running, related.below);
        await = related.await;
      };
      is = spills_are content sound machinery state extra related.running line rest is id callee types op_is;
    }

pub stacks_are_all : StacksAreAll
stacks_are_all content machinery state extra waiting = (
  sym (tasks_set (λ (frames : List Frame) (held : List FrameWords). AllZip (IsWaiting content extra.heap.stands) frames held) state.tasks extra.tasks state.task
      (state.running ∷ state.below) (extra.running ∷ extra.below) waiting.tasks),
  sym (stacks_set (λ (frames : List Frame) (held : List FrameWords). AllZip (IsWaiting content extra.heap.stands) frames held) machinery state.tasks extra.tasks state.task
      (state.running ∷ state.below) (extra.running ∷ extra.below) waiting.tasks),
)
