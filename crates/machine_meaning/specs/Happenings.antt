-- What a run of the machine does besides printing, read off its states: its events with their verdicts, moves and slots, and
-- its accesses by the object that owns the address.
use Rattle.std.specs.Prelude.{ℕ, zero, suc, ◌+◌, ◌-◌, ◌==◌, if◌then◌else◌, List, [], ◌∷◌, ◌++◌, length, drop, take, map, Option, Some, None, slice_index, Result, Ok, Err}
use Rattle.std.specs.List.{filter_map}
use Rattle.std.specs.Option.{option_map}
use Rattle.ir_ast.specs.declared.ops.Op.{Op}
use Rattle.ir_ast.specs.declared.ops.Op.TheVariants.{Load, Store, Call, Statepoint}
use Rattle.moving_heap.specs.declared.heap.Deny.{Deny}
use Rattle.moving_heap.specs.declared.stands.Moved.{Moved}
use Rattle.moving_heap.specs.declared.stands.Stand.{Stand}
use Rattle.moving_heap.specs.declared.stands.Verdict.{Verdict}
use Rattle.moving_heap.specs.Places.{new_address, owner}
use Rattle.moving_heap.specs.Heaps.{loaded}
use Rattle.frame_forms.specs.FrameSizes.{slot}
use Rattle.frame_walk.specs.Maps.{FrameEntry, Pair, pairs_of}
use Rattle.frame_walk.specs.Walks.{frame_after, frame_words}
use Rattle.object_meaning.specs.Lines.{Line}
use Rattle.object_meaning.specs.States.{Frame}
use Rattle.object_meaning.specs.Tasks.{with_event}
use Rattle.object_meaning.specs.Traces.{Event, Access, reads, writes, event_at}
use Rattle.machine_meaning.specs.Machines.{Machine, Machinery, return_address, spilled, all_frames, all_stacks}
use Rattle.machine_meaning.specs.Moving.{verdict_at, moves_due, walked_all}
use Rattle.machine_meaning.specs.MachineSteps.{at}

-- ---- slots

-- the derived slot of a pair, in bytes from the frame's stack pointer, and its word before and after a walk. A task's frames
-- are counted from 0, the newest
pub record SlotChange : Type 0 where
  pub task : ℕ
  pub frame : ℕ
  pub offset : ℕ
  pub old : ℕ
  pub new : ℕ

abbrev pub slot_change : ℕ → ℕ → List ℕ → List ℕ → Pair → SlotChange
slot_change task frame before after pair = record {
  task = task;
  frame = frame;
  offset = slot pair.derived;
  old = slice_index before pair.derived;
  new = slice_index after pair.derived;
}

abbrev pub frame_changes : List Moved → ℕ → ℕ → FrameEntry → List ℕ → List SlotChange
frame_changes moves task frame one words = map (slot_change task frame words (frame_after moves one words)) (pairs_of one)

-- one for each pair of each frame of a stack from this one on, which returns to `address`; a stack of so many words has no
-- more frames
abbrev pub changes_in : List Moved → ℕ → ℕ → List ℕ → (ℕ → List ℕ → List SlotChange) → Option FrameEntry → List SlotChange
changes_in moves task frame stack below None = []
changes_in moves task frame stack below (Some one) =
    frame_changes moves task frame one (take (frame_words one) stack)
    ++ below (slice_index stack (frame_words one)) (drop (frame_words one + 1) stack)

abbrev pub changes_from : ℕ → (ℕ → Option FrameEntry) → List Moved → ℕ → ℕ → ℕ → List ℕ → List SlotChange
changes_from zero found moves task frame address stack = []
changes_from (suc fuel) found moves task frame address stack =
    if address == 0 then []
    else changes_in moves task frame stack (λ next rest. changes_from fuel found moves task (frame + 1) next rest) (found address)

abbrev pub task_changes : Machinery → List Moved → ℕ → List Frame → List ℕ → List SlotChange
task_changes machinery moves task [] stack = []
task_changes machinery moves task (frame ∷ below) stack =
    changes_from (length stack + 1) machinery.found moves task 0 (return_address machinery frame) stack

abbrev pub changes_by_task : Machinery → List Moved → ℕ → List (List Frame) → List (List ℕ) → List SlotChange
changes_by_task machinery moves task (frames ∷ tasks) (stack ∷ stacks) =
    task_changes machinery moves task frames stack ++ changes_by_task machinery moves (task + 1) tasks stacks
changes_by_task machinery moves task _ _ = []

-- where a frame is lost, no slot is shown
abbrev pub shown_changes : Machinery → List Moved → Machine → Result (List (List ℕ)) ℕ → List SlotChange
shown_changes machinery moves machine (Ok stacks) = changes_by_task machinery moves 0 (all_frames machine) (all_stacks machine)
shown_changes machinery moves machine (Err lost) = []

abbrev pub slot_changes : Machinery → List Moved → Machine → List SlotChange
slot_changes machinery [] machine = []
slot_changes machinery (move ∷ moves) machine =
    shown_changes machinery (move ∷ moves) machine (walked_all machinery (move ∷ moves) machine)

-- ---- events

-- an object that moves, by its number
pub record ObjectMove : Type 0 where
  pub object : ℕ
  pub old : ℕ
  pub new : ℕ

abbrev pub object_move : List Moved → Stand → Option ObjectMove
object_move moves stand =
    option_map (λ new. record { object = stand.number; old = stand.address; new = new }) (new_address moves stand.address)

-- an event: a poll or a new object, the verdict on its group, the moves that are made, and the slots of all tasks
pub record Happening : Type 0 where
  pub event : Event
  pub verdict : Verdict
  pub moves : List ObjectMove
  pub slots : List SlotChange

abbrev pub happening : Machinery → Machine → Event → Happening
happening machinery machine event =
    let number = (with_event machine.state).events in
    let moves = moves_due machinery machine.heap number in record {
      event = event;
      verdict = verdict_at machinery machine.heap number;
      moves = filter_map (object_move moves) machine.heap.stands;
      slots = slot_changes machinery moves machine;
    }

abbrev pub happening_by : Machinery → Machine → Line → Op → List Happening
happening_by machinery machine line (Call callee types) = map (happening machinery machine) (event_at callee)
happening_by machinery machine line (Statepoint id callee types) =
    map (happening machinery (spilled machine line.inst (length types))) (event_at callee)
happening_by machinery machine line op = []

-- what the line does at which the running frame stands
abbrev pub happenings_at : Machinery → Machine → List Line → List Happening
happenings_at machinery machine [] = []
happenings_at machinery machine (line ∷ rest) = happening_by machinery machine line line.inst.op

-- ---- accesses

-- an access that isn't denied, by the object that owns the address
abbrev pub owned : (ℕ → ℕ → Access) → ℕ → Option Stand → Result ℕ Deny → List Access
owned access p (Some stand) (Ok word) = access stand.number (p - stand.address) ∷ []
owned access p _ _ = []

abbrev pub access_by : Machine → Line → Op → List Access
access_by machine line Load =
    owned reads (at machine line 0) (owner machine.heap.stands (at machine line 0)) (loaded machine.heap (at machine line 0))
access_by machine line Store =
    owned writes (at machine line 1) (owner machine.heap.stands (at machine line 1)) (loaded machine.heap (at machine line 1))
access_by machine line op = []

abbrev pub accesses_by : Machine → List Line → List Access
accesses_by machine [] = []
accesses_by machine (line ∷ rest) = access_by machine line line.inst.op
