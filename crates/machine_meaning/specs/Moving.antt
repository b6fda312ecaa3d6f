-- An event of the address machine: its group of moves, with the walk over all stacks.
use Rattle.std.specs.Prelude.{ℕ, List, [], ◌∷◌, map, slice_set, slice_index_or, Result, Ok, Err}
use Rattle.sp_ids.specs.declared.ends.End.TheVariants.{LostFrame}
use Rattle.moving_heap.specs.declared.stands.Moved.{Moved}
use Rattle.moving_heap.specs.declared.stands.Verdict.{Verdict}
use Rattle.moving_heap.specs.Places.{verdict, group_moves, carried}
use Rattle.moving_heap.specs.Contents.{after_moves}
use Rattle.moving_heap.specs.Heaps.{HeapView}
use Rattle.frame_walk.specs.Walks.{walked}
use Rattle.object_meaning.specs.States.{Frame}
use Rattle.object_meaning.specs.Effects.{Effect, ends}
use Rattle.object_meaning.specs.Tasks.{with_event}
use Rattle.machine_meaning.specs.EventPlaces.{flip_of}
use Rattle.machine_meaning.specs.Machines.{Machine, Machinery, return_address, all_frames, all_stacks}

abbrev pub verdict_at : Machinery → HeapView → ℕ → Verdict
verdict_at machinery heap event = verdict heap.stands (machinery.plan.group event) (flip_of machinery.plan event)

-- the moves that are made at an event
abbrev pub moves_due : Machinery → HeapView → ℕ → List Moved
moves_due machinery heap event = group_moves heap.stands (machinery.plan.group event) (flip_of machinery.plan event)

-- all objects move at once, and each pointer cell that holds the old address of a moved one
abbrev pub moved_heap : List Moved → HeapView → HeapView
moved_heap moves heap = record {
  stands = map (carried moves) heap.stands;
  contents = map (after_moves moves) heap.contents;
  moves = [];
}

-- a task's stack after the walk, from the call at which its newest frame stands
abbrev pub walked_task : Machinery → List Moved → List Frame → List ℕ → Result (List ℕ) ℕ
walked_task machinery moves [] stack = Ok stack
walked_task machinery moves (frame ∷ below) stack = walked machinery.found moves (return_address machinery frame) stack

abbrev pub joined : Result (List ℕ) ℕ → Result (List (List ℕ)) ℕ → Result (List (List ℕ)) ℕ
joined (Ok stack) (Ok stacks) = Ok (stack ∷ stacks)
joined (Ok stack) (Err lost) = Err lost
joined (Err lost) stacks = Err lost

abbrev pub walked_tasks : Machinery → List Moved → List (List Frame) → List (List ℕ) → Result (List (List ℕ)) ℕ
walked_tasks machinery moves (frames ∷ tasks) (stack ∷ stacks) =
    joined (walked_task machinery moves frames stack) (walked_tasks machinery moves tasks stacks)
walked_tasks machinery moves _ stacks = Ok stacks

abbrev pub walked_all : Machinery → List Moved → Machine → Result (List (List ℕ)) ℕ
walked_all machinery moves machine = walked_tasks machinery moves (all_frames machine) (all_stacks machine)

-- where no frame is lost, the stacks are those after the walk, and then the objects move
abbrev pub after_walk : List Moved → Machine → Result (List (List ℕ)) ℕ → (Machine → Effect Machine) → Effect Machine
after_walk moves machine (Ok stacks) next = next (record machine {
  stack = slice_index_or stacks machine.state.task [];
  stacks = slice_set stacks machine.state.task [];
  heap = moved_heap moves machine.heap;
})
after_walk moves machine (Err lost) next = ends LostFrame machine

abbrev pub moved_by : Machinery → List Moved → Machine → (Machine → Effect Machine) → Effect Machine
moved_by machinery [] machine next = next machine
moved_by machinery (move ∷ moves) machine next =
    after_walk (move ∷ moves) machine (walked_all machinery (move ∷ moves) machine) next

-- one more event: first its moves, then what it is
abbrev pub eventful : Machinery → Machine → (Machine → Effect Machine) → Effect Machine
eventful machinery machine next =
    let now = record machine { state = with_event machine.state } in
    moved_by machinery (moves_due machinery now.heap now.state.events) now next
