-- Events: what the executor moves is what the machine moves.
use Rattle.std.proofs.Common.{◌≡◌, ◌≢◌, ℕ, ℤ, true, List, [], ◌∷◌, length, map, set, refl, sym, ap, ◌∙◌, arith, ◌<◌}
use Rattle.std.specs.Prelude.{Option, Some, None, if◌then◌else◌, slice_get, unsigned_abs, Result, Ok, Err}
use Rattle.std.proofs.lemmas.List.{length-map, get_or-set_same}
use Rattle.std.proofs.lemmas.Option.{slice_get_within}
use Rattle.sp_ids.specs.declared.ends.End.TheVariants.{LostFrame, Trap}
use Rattle.sp_ids.specs.declared.ends.Trap.TheVariants.{Count, Full}
use Rattle.ir_ast.specs.declared.cells.Cell.{Cell}
use Rattle.ir_ast.specs.Objects.{number}
use Rattle.moving_heap.specs.declared.heap.AllocFault.TheVariants.{Count as Negative, Full as NoRoom}
use Rattle.tool_io.specs.Counts.{raised}
use Rattle.moving_heap.specs.declared.stands.Moved.{Moved}
use Rattle.moving_heap.specs.Heaps.{HeapView, alloc_answer, heap_of, with_object}
use Rattle.moving_heap.specs.Settled.{Table}
use Rattle.machine_lines.specs.Going.{still}
use Rattle.object_meaning.specs.Effects.{Effect, goes_on, ends}
use Rattle.machine_meaning.specs.Machines.{Machine, Machinery, gone_on}
use Rattle.machine_meaning.specs.MachineTasks.{allocated_machine, allocating_machine}
use Rattle.machine_meaning.specs.Moving.{eventful, moves_due, after_walk, moved_by, moved_heap, walked_all, walked_task, walked_tasks}
use Rattle.machine_frames.specs.declared.tasks.Task.{Task}
use Rattle.ir_machine.specs.Executors.{machinery, waiting, kept, told, without_words}
use Rattle.moving_heap.proofs.VerdictLemmas.{quiet_moves}
use Rattle.moving_heap.specs.Places.{group_moves}
use Rattle.move_plan.specs.declared.plan_lines.PlanLine.{PlanLine}
use Rattle.move_plan.specs.Plans.{flips, go, group}
use Rattle.ir_machine.specs.declared.executor.Program.{Program}
use Rattle.ir_machine.specs.Events.{or_lost, placed, IsLost}
use Rattle.ir_machine.proofs.TaskLemmas.{hole_walks, hole_again, lost_here, lost_there, with_task}
use Rattle.list_laws.proofs.Places.{set_twice}

pub happen_is : (machinery : Machinery) (machine : Machine) (next : Machine → Effect Machine) (events : ℕ) (moves : List Moved) → events ≡ raised machine.state.events
    → moves ≡ moves_due machinery machine.heap events
    → moved_by machinery moves (record machine { state = record machine.state { events = events } }) next ≡ eventful machinery machine next
happen_is machinery machine next events moves events_is moves_is =
    ap (λ (ms : List Moved). moved_by machinery ms (record machine { state = record machine.state { events = events } }) next) moves_is
    ∙ ap (λ (n : ℕ). moved_by machinery (moves_due machinery machine.heap n) (record machine { state = record machine.state { events = n } }) next) events_is

-- no line of a plan without lines is due
pub nothing_due : (program : Program) (heap : HeapView) (event : ℕ) → program.plan.now ≡ [] → [] ≡ moves_due (machinery program) heap event
nothing_due program heap event none =
    quiet_moves heap.stands [] None refl refl
    ∙ ap (λ (plan : List PlanLine). group_moves heap.stands (group plan event) (if flips plan event then Some event else None)) (sym none)

pub nobody_due : (program : Program) (event : ℕ) → program.plan.now ≡ [] → None ≡ (machinery program).setting.go event
nobody_due program event none = ap (λ (plan : List PlanLine). go plan event) (sym none)

-- a group that isn't empty
some_moves : (machinery : Machinery) (moves : List Moved) (machine : Machine) (next : Machine → Effect Machine) → moves ≢ []
    → moved_by machinery moves machine next ≡ after_walk moves machine (walked_all machinery moves machine) next
some_moves machinery [] machine next some = absurd (some refl)
some_moves machinery (move ∷ moves) machine next some = refl

lost_effect : (moves : List Moved) (machine after : Machine) (walk : Result (List (List ℕ)) ℕ) (next : Machine → Effect Machine) → IsLost walk → without_words machine ≡ without_words after
    → told (after_walk moves machine walk next) ≡ told (or_lost true after next)
lost_effect moves machine after walk next lost same =
    ap (λ (w : Result (List (List ℕ)) ℕ). told (after_walk moves machine w next)) lost.is ∙ ap (λ (m : Machine). let e : Effect Machine = ends LostFrame m in e) same

-- the stack of the running task is lost
pub lost_running : (machinery : Machinery) (moves : List Moved) (machine after : Machine) (tasks : List (Option Task)) (address : ℕ) (next : Machine → Effect Machine) → moves ≢ []
    → machine.state.tasks ≡ map waiting tasks → machine.stacks ≡ map kept tasks → slice_get tasks machine.state.task ≡ Some None
    → walked_task machinery moves (machine.state.running ∷ machine.state.below) machine.stack ≡ Err address → without_words machine ≡ without_words after
    → told (moved_by machinery moves machine next) ≡ told (or_lost true after next)
lost_running machinery moves machine after tasks address next some tasks_are stacks_are there lost same =
    let here = lost_here machinery moves tasks machine.state.task (machine.state.running ∷ machine.state.below) machine.stack address there lost in
    ap told (some_moves machinery moves machine next some)
    ∙ lost_effect moves machine after (walked_all machinery moves machine) next (rw (tasks_are, stacks_are) here) same

-- that of another task is
pub lost_other : (machinery : Machinery) (moves : List Moved) (machine after : Machine) (tasks : List (Option Task)) (next : Machine → Effect Machine) → moves ≢ []
    → machine.state.tasks ≡ map waiting tasks → machine.stacks ≡ map kept tasks → slice_get tasks machine.state.task ≡ Some None
    → IsLost (walked_tasks machinery moves (map waiting tasks) (map kept tasks)) → without_words machine ≡ without_words after
    → told (moved_by machinery moves machine next) ≡ told (or_lost true after next)
lost_other machinery moves machine after tasks next some tasks_are stacks_are there lost same =
    let here = lost_there machinery moves tasks machine.state.task (machine.state.running ∷ machine.state.below) machine.stack there lost in
    ap told (some_moves machinery moves machine next some)
    ∙ lost_effect moves machine after (walked_all machinery moves machine) next (rw (tasks_are, stacks_are) here) same

-- no stack is lost, and the objects move
pub moved_goes : (machinery : Machinery) (moves : List Moved) (machine : Machine) (tasks after : List (Option Task)) (new : List ℕ) (next : Machine → Effect Machine) → moves ≢ []
    → machine.state.tasks ≡ map waiting tasks → machine.stacks ≡ map kept tasks → slice_get tasks machine.state.task ≡ Some None
    → walked_task machinery moves (machine.state.running ∷ machine.state.below) machine.stack ≡ Ok new
    → walked_tasks machinery moves (map waiting tasks) (map kept tasks) ≡ Ok (map kept after) → length after ≡ length tasks
    → moved_by machinery moves machine next ≡ next (record machine { stack = new; stacks = map kept after; heap = moved_heap moves machine.heap })
moved_goes machinery moves machine tasks after new next some tasks_are stacks_are there one others same =
    let task = machine.state.task in
    let frames = machine.state.running ∷ machine.state.below in
    let walks : walked_all machinery moves machine ≡ Ok (set (map kept after) task new) =
    rw (tasks_are, stacks_are) (hole_walks machinery moves tasks after task frames machine.stack new there others same one) in
    let within : task < length (map kept after) = omega (arith, slice_get_within tasks task None there, length-map after kept) in
    let whole : List ℕ → List (List ℕ) → Effect Machine = λ stack stacks. next (record machine { stack = stack; stacks = stacks; heap = moved_heap moves machine.heap }) in
    some_moves machinery moves machine next some
    ∙ ap (λ (w : Result (List (List ℕ)) ℕ). after_walk moves machine w next) walks
    ∙ ap (λ (stack : List ℕ). whole stack (set (set (map kept after) task new) task [])) (get_or-set_same (map kept after) task new [] within)
    ∙ ap (whole new) (set_twice (map kept after) task new [] ∙ hole_again machinery moves tasks after task there others same)

-- ---- new objects

pub make_goes : (machine : Machine) (layout : ℕ) (fields : List Cell) (count : ℤ) (address : ℕ) (heap : HeapView) → alloc_answer machine.heap fields count ≡ Ok address
    → heap ≡ with_object machine.heap layout fields (unsigned_abs count)
    → goes_on (gone_on (number address) (record machine { heap = heap })) ≡ allocating_machine machine layout fields count
make_goes machine layout fields count address heap answer made =
    ap (λ (h : HeapView). goes_on (gone_on (number address) (record machine { heap = h }))) made
    ∙ ap (allocated_machine machine layout fields (unsigned_abs count)) (sym answer)

pub make_none : (machine : Machine) (layout : ℕ) (fields : List Cell) (count : ℤ) → alloc_answer machine.heap fields count ≡ Err Negative
    → ends (Trap Count) machine ≡ allocating_machine machine layout fields count
make_none machine layout fields count answer = ap (allocated_machine machine layout fields (unsigned_abs count)) (sym answer)

pub make_full : (machine : Machine) (layout : ℕ) (fields : List Cell) (count : ℤ) → alloc_answer machine.heap fields count ≡ Err NoRoom
    → ends (Trap Full) machine ≡ allocating_machine machine layout fields count
make_full machine layout fields count answer = ap (allocated_machine machine layout fields (unsigned_abs count)) (sym answer)

-- the moves of an executor whose tasks and places are lent
pub lent_moves : (machinery : Machinery) (event : ℕ) (machine : Machine) (run : Task) (tasks slice : List (Option Task)) (table : Table) (heap : HeapView) (next : Machine → Effect Machine)
    → slice ≡ tasks → heap_of table ≡ heap
    → told (moved_by machinery (moves_due machinery heap event) (record (with_task machine run machine.state.task tasks) { heap = still heap }) next)
    ≡ told (moved_by machinery (moves_due machinery (heap_of table) event) (placed machine run slice table) next)
lent_moves machinery event machine run tasks slice table heap next slice_is heap_is =
    ap (λ (ts : List (Option Task)). told (moved_by machinery (moves_due machinery heap event) (record (with_task machine run machine.state.task ts) { heap = still heap }) next)) (sym slice_is)
    ∙ ap (λ (h : HeapView). told (moved_by machinery (moves_due machinery h event) (record (with_task machine run machine.state.task slice) { heap = still h }) next)) (sym heap_is)
