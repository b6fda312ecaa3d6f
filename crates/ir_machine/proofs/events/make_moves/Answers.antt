use Rattle.std.proofs.Common.{List, refl, sym, ap, subst, ◌∙◌}
use Rattle.std.specs.Prelude.{Option}
use Rattle.moving_heap.specs.Heaps.{HasPlace, HeapView, heap_of}
use Rattle.moving_heap.specs.Settled.{Table}
use Rattle.moving_heap.proofs.RoomLemmas.{has_place_after}
use Rattle.machine_lines.specs.Going.{still}
use Rattle.machine_frames.specs.declared.tasks.Task.{Task}
use Rattle.machine_meaning.specs.Moving.{moved_heap}
use Rattle.ir_machine.specs.Executors.{machinery, told}
use Rattle.ir_machine.specs.Events.{placed}
use Rattle.ir_machine.proofs.EventLemmas.{lost_running, lost_other, moved_goes}
use Rattle.ir_machine.proofs.TaskLemmas.{same_frames, same_waits, moved_seen, same_count}
use Rattle.ir_machine.proofs.events.make_moves.Goals as goal

pub returns-then-walk_task-clause-moved : goal.returns-then-walk_task-clause-moved
returns-then-walk_task-clause-moved c = λ machine next there.
    let all = machinery c.args.program.now in let places = c.args.places.now in let run : Task = c.args.run.now in let tasks : List (Option Task) = c.args.tasks.now in
    let later : Task = c.walk_task.new.task in
    let walked = rw (c.if-walk_task.true, c.moves.ensures) at c.walk_task.ensures.walked in
    lost_running all places.moves (placed machine run tasks places) (placed machine later tasks places) tasks walked.0 next c.requires.due refl refl there walked.1
    (same_frames (placed machine run tasks places) run later machine.state.task tasks tasks c.walk_task.ensures.kept refl)

pub returns-then-walk_tasks-clause-moved : goal.returns-then-walk_tasks-clause-moved
returns-then-walk_tasks-clause-moved c = λ machine next there.
    let all = machinery c.args.program.now in let places = c.args.places.now in let run : Task = c.args.run.now in let tasks : List (Option Task) = c.args.tasks.now in
    let later : Task = c.walk_task.new.task in let others : List (Option Task) = c.walk_tasks.new.tasks in
    let walked = rw (c.if-walk_tasks.true, c.moves-2.ensures) at c.walk_tasks.ensures.walked in
    lost_other all places.moves (placed machine run tasks places) (placed machine later others places) tasks next c.requires.due refl refl there walked
    (same_frames (placed machine run tasks places) run later machine.state.task tasks others c.walk_task.ensures.kept (same_waits tasks others c.walk_tasks.ensures.kept))

pub returns-clause-moved : goal.returns-clause-moved
returns-clause-moved c = λ machine next there.
    let all = machinery c.args.program.now in let places = c.args.places.now in let run : Task = c.args.run.now in let tasks : List (Option Task) = c.args.tasks.now in
    let later : Task = c.walk_task.new.task in let others : List (Option Task) = c.walk_tasks.new.tasks in
    let own = rw (c.if-walk_task.false, c.moves.ensures) at c.walk_task.ensures.walked in
    let each = rw (c.if-walk_tasks.false, c.moves-2.ensures) at c.walk_tasks.ensures.walked in
    let waits = same_waits tasks others c.walk_tasks.ensures.kept in
    let old = placed machine run tasks places in
    let heap : HeapView = still (heap_of c.apply.new.self) in
    ap told (moved_goes all places.moves old tasks others later.stack next c.requires.due refl refl there own each (same_count tasks others waits)
    ∙ ap next (moved_seen old run later machine.state.task tasks others (moved_heap places.moves old.heap) heap c.walk_task.ensures.kept waits (ap (λ (table : Table). still (heap_of table)) c.apply.ensures)))

pub returns-clause-room : goal.returns-clause-room
returns-clause-room c = λ fields count held.
    subst (λ (table : Table). HasPlace table fields count) (sym c.apply.ensures) (has_place_after c.args.places.now c.args.places.now.moves fields count held)
