-- What an event does to the executor: its moves with the walk over all stacks, and its `go` line.
use Rattle.std.specs.Prelude.{◌≡◌, ℕ, ℤ, Bool, true, false, if◌then◌else◌, List, [], ◌++◌, map, Option, Some, None, slice_get, unwrap_or, Result, Ok, Err}
use Rattle.std.specs.Option.{option_map_or}
use Rattle.sp_ids.specs.declared.ends.End.TheVariants.{LostFrame}
use Rattle.ir_ast.specs.declared.cells.Cell.{Cell}
use Rattle.moving_heap.specs.declared.stands.Moved.{Moved}
use Rattle.moving_heap.specs.Heaps.{HasPlace, heap_of}
use Rattle.moving_heap.specs.Settled.{Table}
use Rattle.object_meaning.specs.Effects.{Effect, ends}
use Rattle.machine_meaning.specs.Machines.{Machine, Machinery}
use Rattle.machine_meaning.specs.MachineTasks.{allocating_machine, switched_machine}
use Rattle.machine_meaning.specs.Moving.{moved_by, moves_due, walked_task, walked_tasks}
use Rattle.machine_frames.specs.declared.frames.Frame.{Frame as Standing}
use Rattle.machine_frames.specs.declared.tasks.Task.{Task}
use Rattle.machine_frames.specs.Frames.{below_of, frame_of, frames_of}
use Rattle.machine_lines.specs.Going.{still}
use Rattle.run_tasks.specs.declared.printing.Did.{Did}
use Rattle.ir_machine.specs.Executors.{told, waiting, kept}
use Rattle.run_tasks.specs.Dids.{effect_of}

-- what an effect is that first moves, and then does this
abbrev pub or_lost : Bool → Machine → (Machine → Effect Machine) → Effect Machine
or_lost lost machine next = if lost then ends LostFrame machine else next machine

pub record IsLost (walk : Result (List (List ℕ)) ℕ) : Type 0 where
  pub address : ℕ
  pub is : walk ≡ Err address

-- a task's stack after the walk, or a frame was lost; its frames stay
abbrev pub TaskWalked : Machinery → List Moved → Task → Bool → Task → Type 0
TaskWalked machinery moves old false new = walked_task machinery moves (frames_of old) old.stack ≡ Ok new.stack
TaskWalked machinery moves old true new = (address : ℕ) × (walked_task machinery moves (frames_of old) old.stack ≡ Err address)

abbrev pub SlotWalked : Machinery → List Moved → Option Task → Bool → Option Task → Type 0
SlotWalked machinery moves old false new = walked_task machinery moves (waiting old) (kept old) ≡ Ok (kept new)
SlotWalked machinery moves old true new = (address : ℕ) × (walked_task machinery moves (waiting old) (kept old) ≡ Err address)

abbrev pub AllWalked : Machinery → List Moved → List (Option Task) → Bool → List (Option Task) → Type 0
AllWalked machinery moves old false new = walked_tasks machinery moves (map waiting old) (map kept old) ≡ Ok (map kept new)
AllWalked machinery moves old true new = IsLost (walked_tasks machinery moves (map waiting old) (map kept old))

-- the stacks before these are walked already
abbrev pub before_walk : List (List ℕ) → Result (List (List ℕ)) ℕ → Result (List (List ℕ)) ℕ
before_walk done (Ok rest) = Ok (done ++ rest)
before_walk done (Err lost) = Err lost

-- a `go` line
abbrev pub gone_to : Option ℕ → Machine → Machine
gone_to to machine = option_map_or (λ number. switched_machine machine number (slice_get machine.state.tasks number)) to machine

-- a task but for the words of its stack, which alone a walk changes
abbrev pub unwalked : Option Task → Option Task
unwalked None = None
unwalked (Some task) = Some (record task { stack = [] })

-- the frame of a task that waits, or else this one
abbrev pub frame_or : Option Task → Standing → Standing
frame_or None frame = frame
frame_or (Some task) frame = task.frame

-- the frame that goes on behind a poll with this `go` line
abbrev pub next_frame : Option ℕ → Standing → List (Option Task) → Standing
next_frame None frame tasks = frame
next_frame (Some to) frame tasks = frame_or (unwrap_or (slice_get tasks to) None) frame

-- a machine whose running task, other tasks and places are these
abbrev pub placed : Machine → Task → List (Option Task) → Table → Machine
placed machine run tasks places = record machine {
  state = record machine.state { running = frame_of run.frame; below = below_of run; tasks = map waiting tasks };
  stack = run.stack;
  stacks = map kept tasks;
  heap = still (heap_of places);
}

-- these moves, of any machine with these tasks and places: whether a frame was lost, and what is left
abbrev pub MovesSo : Machinery → List Moved → Task → List (Option Task) → Table → Bool → Task → List (Option Task) → Table → Type 0
MovesSo machinery moves run tasks places lost later others left =
    (machine : Machine) (next : Machine → Effect Machine) → slice_get tasks machine.state.task ≡ Some None
    → told (moved_by machinery moves (placed machine run tasks places) next) ≡ told (or_lost lost (placed machine later others left) next)

-- what there was room for, there still is
abbrev pub KeepsPlace : Table → Table → Type 0
KeepsPlace old new = (fields : List Cell) (count : ℤ) → HasPlace old fields count → HasPlace new fields count

-- an event whose moves come before a new object of so many elements
abbrev pub MakesObject : Machinery → ℕ → ℕ → List Cell → ℤ → Task → List (Option Task) → Table → Did → Task → List (Option Task) → Table → Type 0
MakesObject machinery event layout fields count run tasks places did later others left =
    (machine : Machine) (next : Machine → Effect Machine) → slice_get tasks machine.state.task ≡ Some None
    → ((now : Machine) → now.state.running ≡ frame_of run.frame → next now ≡ allocating_machine now layout fields count)
    → told (effect_of did (placed machine later others left))
    ≡ told (moved_by machinery (moves_due machinery (heap_of places) event) (placed machine run tasks places) next)
