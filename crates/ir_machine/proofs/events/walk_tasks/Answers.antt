use Rattle.std.proofs.Common.{◌<◌, List, length, get_or, ap, arith}
use Rattle.std.specs.Prelude.{Option}
use Rattle.machine_frames.specs.declared.tasks.Task.{Task}
use Rattle.ir_machine.specs.Executors.{machinery}
use Rattle.ir_machine.proofs.TaskLemmas.{walks_more, kept_more}
use Rattle.ir_machine.proofs.events.walk_tasks.Goals as goal

pub loop-place-preserved : goal.loop-place-preserved
loop-place-preserved c =
    let tasks : List (Option Task) = c.loop-place.tasks in
    let below : c.loop-place.place < length tasks = omega arith in
    walks_more (machinery c.args.program.now) c.args.moves.now.moves c.args.tasks.now tasks c.loop-place.place (get_or tasks c.loop-place.place c.index-tasks-place.result) below (ap (get_or tasks c.loop-place.place) c.index-tasks-place.is) c.loop-place.invariant c.walk_slot.new.slot c.walk_slot.ensures.kept (rw c.if-walk_slot.false at c.walk_slot.ensures.walked)

pub returns-then-walk_slot-clause-kept : goal.returns-then-walk_slot-clause-kept
returns-then-walk_slot-clause-kept c =
    let tasks : List (Option Task) = c.loop-place.tasks in
    let below : c.loop-place.place < length tasks = omega arith in
    kept_more (machinery c.args.program.now) c.args.moves.now.moves c.args.tasks.now tasks c.loop-place.place (get_or tasks c.loop-place.place c.index-tasks-place.result) below (ap (get_or tasks c.loop-place.place) c.index-tasks-place.is) c.loop-place.invariant c.walk_slot.new.slot c.walk_slot.ensures.kept
