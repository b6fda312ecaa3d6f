use Rattle.std.proofs.Common.{◌∙◌, ap}
use Rattle.std.specs.Option.{is_some}
use Rattle.move_plan.proofs.reader.is_second_go.Goals as goal

pub returns-in-Go : goal.returns-in-Go
returns-in-Go c = rw c.in-Go.is (c.is_some.ensures ∙ ap is_some c.task_of.ensures)
