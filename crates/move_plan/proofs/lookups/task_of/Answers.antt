use Rattle.std.proofs.Common.{◌∙◌, ap, sym}
use Rattle.std.specs.Prelude.{slice_get}
use Rattle.std.specs.List.{filter_map}
use Rattle.move_plan.specs.Tables.{task_of}
use Rattle.move_plan.proofs.EventLemmas.{go-event}
use Rattle.move_plan.proofs.lookups.task_of.Goals as goal

pub returns : goal.returns
returns c =
    c.first_task.ensures ∙ ap (λ xs. slice_get (filter_map task_of xs) 0) c.lines_of.ensures ∙ sym (go-event c.args.plan.now c.args.event)
