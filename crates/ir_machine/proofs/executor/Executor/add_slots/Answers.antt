use Rattle.std.proofs.Common.{◌++◌, ◌<◌, List, Option, map, length, sym, ap, ◌∙◌, arith}
use Rattle.machine_meaning.specs.Happenings.{changes_by_task, task_changes}
use Rattle.machine_meaning.specs.Machines.{all_frames, all_stacks}
use Rattle.moving_heap.specs.declared.stands.Moved.{Moved}
use Rattle.machine_frames.specs.Frames.{frames_of}
use Rattle.machine_frames.specs.declared.tasks.Task.{Task}
use Rattle.run_traces.specs.Changes.{change_of}
use Rattle.ir_machine.specs.Executors.{kept, machinery, seen, waiting}
use Rattle.ir_machine.proofs.TraceLemmas.{other_more, own_more}
use Rattle.ir_machine.proofs.executor.Executor.add_slots.Goals as goal
use Rattle.ir_machine.proofs.executor.Executor.add_slots.Goals.{then-from-self+in_ok-add_task, else-from-self+in_ok-add_waiting}

pub loop-place-preserved : goal.loop-place-preserved
loop-place-preserved c =
    let self = c.args.self.now in let all = machinery c.args.program.now in let moves = self.heap.moves in
    let tasks : List (Option Task) = self.tasks.items in let place = c.loop-place.place in
    let items = map change_of c.loop-place.slots.items in
    let target = map change_of c.args.slots.now.items ++ changes_by_task all moves 0 (all_frames (seen self)) (all_stacks (seen self)) in
    let within : place < length tasks = omega (arith, c.loop-place-test.true, c.len-place-end.ensures) in
    elim c.if-from-self.branch [
      | then-from-self+in_ok-add_task w ↦
          rw w.slots-is (own_more all moves tasks self.task self.run place within items (map change_of w.add_task.new.slots.items) target c.loop-place.invariant
          (sym c.from.ensures ∙ w.if-from-self.true) (w.in_ok-add_task.ensures ∙ ap (λ (ms : List Moved). items ++ task_changes all ms place (frames_of self.run) self.run.stack) w.moves.ensures))
      | else-from-self+in_ok-add_waiting w ↦
          rw w.slots-is (other_more all moves tasks self.task self.run place within items (map change_of w.add_waiting.new.slots.items) target c.loop-place.invariant
          (λ e. w.if-from-self.false (c.from.ensures ∙ e)) w.index-task.result.now w.index-task.ensures (w.in_ok-add_waiting.ensures ∙ ap (λ (ms : List Moved). items ++ task_changes all ms place (waiting w.index-task.result.now) (kept w.index-task.result.now)) w.moves-else-from-self.ensures))
    ]
