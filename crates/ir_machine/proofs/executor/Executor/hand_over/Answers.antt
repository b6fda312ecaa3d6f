use Rattle.std.proofs.Common.{List, sym, ap, ◌∙◌}
use Rattle.std.specs.Prelude.{Option, slice_get}
use Rattle.object_meaning.specs.Effects.{Effect, ends}
use Rattle.machine_meaning.specs.Machines.{Machine}
use Rattle.ir_machine.specs.Executors.{seen, told}
use Rattle.ir_machine.proofs.StepLemmas.{does_as}
use Rattle.machine_frames.specs.declared.tasks.Task.{Task}
use Rattle.ir_machine.proofs.TaskLemmas.{with_task, handed_some, handed_none}
use Rattle.sp_ids.specs.declared.ends.End.TheVariants.{Trap}
use Rattle.sp_ids.specs.declared.ends.Trap.TheVariants.{Unreachable}
use Rattle.ir_machine.proofs.executor.Executor.hand_over.Goals as goal
use Rattle.list_laws.proofs.Places.{set_none}
use Rattle.list_laws.proofs.Options.{inner_some}

pub returns-in_default : goal.returns-in_default
returns-in_default c =
    let now = c.args.self.now in let machine = seen now in let tasks : List (Option Task) = now.tasks.items in
    let none = sym c.in_default.ensures.given in
    ap told (ap (λ (ts : List (Option Task)). let e : Effect Machine = ends (Trap Unreachable) (with_task machine now.run now.task ts) in e) (c.in_default.ensures.tasks ∙ set_none tasks 0 none)
    ∙ handed_none machine tasks none)

pub returns : goal.returns
returns c =
    let now = c.args.self.now in let machine = seen now in let tasks : List (Option Task) = now.tasks.items in
    let found = inner_some c.in-Some.run' (slice_get tasks 0) (sym c.in-Some.ensures.given) in
    does_as c.go_on.new.self c.go_on.result _ _
    (handed_some machine now.run c.in-Some.run' now.task tasks c.take_task.new.tasks.items c.in-Some.ensures.tasks found) c.go_on.ensures
