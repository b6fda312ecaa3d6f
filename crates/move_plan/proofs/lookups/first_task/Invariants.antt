use Rattle.std.proofs.Common.{◌≡◌, drop}
use Rattle.std.specs.List.{filter_map}
use Rattle.move_plan.specs.Tables.{task_of}
use Rattle.move_plan.proofs.lookups.first_task.Given as goal

abbrev pub invariant-loop-line : goal.invariant-loop-line
invariant-loop-line l = filter_map task_of (drop l.line-index l.plan) ≡ filter_map task_of l.plan
