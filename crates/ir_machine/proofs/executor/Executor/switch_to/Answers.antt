use Rattle.std.proofs.Common.{List, set, sym, ap, ◌∙◌}
use Rattle.std.specs.Prelude.{Option, Some, None, slice_get}
use Rattle.ir_machine.specs.Executors.{seen}
use Rattle.ir_machine.specs.Events.{frame_or}
use Rattle.machine_frames.specs.declared.tasks.Task.{Task}
use Rattle.ir_machine.proofs.TaskLemmas.{with_task, switched_some, switched_none}
use Rattle.ir_machine.proofs.executor.Executor.switch_to.Goals as goal
use Rattle.list_laws.proofs.Places.{set_none, set_again}
use Rattle.list_laws.proofs.Options.{inner_some}

pub returns-in_default-clause-goes : goal.returns-in_default-clause-goes
returns-in_default-clause-goes c =
    let now = c.args.self.now in let machine = seen now in let tasks : List (Option Task) = now.tasks.items in
    let none = sym c.in_default.ensures.given in
    ap (λ (ts : List (Option Task)). with_task machine now.run now.task ts) (c.in_default.ensures.tasks ∙ set_none tasks c.args.to none)
    ∙ sym (switched_none machine tasks c.args.to none)

pub returns-clause-goes : goal.returns-clause-goes
returns-clause-goes c =
    let now = c.args.self.now in let machine = seen now in let tasks : List (Option Task) = now.tasks.items in
    let found = inner_some c.in-Some.run' (slice_get tasks c.args.to) (sym c.in-Some.ensures.given) in
    let written = c.set_task-2.ensures
    ∙ ap (λ (ts : List (Option Task)). set ts c.args.to None) (c.set_task.ensures
    ∙ ap (λ (ts : List (Option Task)). set ts now.task (Some c.replace-waits.result)) c.in-Some.ensures.tasks)
    ∙ ap (λ (run : Task). set (set (set tasks c.args.to None) now.task (Some run)) c.args.to None) c.replace-waits.ensures.value
    ∙ set_again tasks c.args.to now.task None (Some now.run) in
    ap (λ (run : Task). with_task machine run c.args.to c.set_task-2.new.tasks.items) c.replace-waits.ensures.after
    ∙ switched_some machine now.run c.in-Some.run' now.task c.args.to tasks c.set_task-2.new.tasks.items written found

pub returns-in_default-clause-frame : goal.returns-in_default-clause-frame
returns-in_default-clause-frame c =
    let now = c.args.self.now in
    ap (λ (found : Option Task). frame_or found now.run.frame) c.in_default.ensures.given

pub returns-clause-frame : goal.returns-clause-frame
returns-clause-frame c =
    let now = c.args.self.now in
    ap (λ (task : Task). task.frame) c.replace-waits.ensures.after ∙ ap (λ (found : Option Task). frame_or found now.run.frame) c.in-Some.ensures.given
