use Rattle.std.proofs.Common.{sym, ap, ◌∙◌}
use Rattle.machine_frames.specs.declared.tasks.Task.{Task}
use Rattle.std.specs.Prelude.{Some}
use Rattle.ir_machine.specs.Events.{unwalked}
use Rattle.ir_machine.proofs.events.walk_slot.Goals as goal

pub returns-in-Some-clause-kept : goal.returns-in-Some-clause-kept
returns-in-Some-clause-kept c = ap (λ (task : Task). unwalked (Some task)) c.walk_task.ensures.kept ∙ ap unwalked (sym c.in-Some.is)
