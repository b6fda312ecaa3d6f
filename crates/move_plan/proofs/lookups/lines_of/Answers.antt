use Rattle.std.proofs.Common.{◌∙◌}
use Rattle.move_plan.specs.Plans.{event_of}
use Rattle.move_plan.proofs.SortedLemmas.{places-order, slice_of_key}
use Rattle.move_plan.proofs.lookups.lines_of.Goals as goal

pub between-requires-clause-order : goal.between-requires-clause-order
between-requires-clause-order c =
    places-order event_of c.args.plan.now c.args.event c.below.result c.up_to.result
    (record { fits_from = c.below.ensures.within; fits_to = c.up_to.ensures.within; from = c.below.ensures.point; to = c.up_to.ensures.point })

pub returns : goal.returns
returns c =
    c.between.ensures ∙ slice_of_key event_of c.args.plan.now c.args.event c.below.result c.up_to.result
    (record { fits_from = c.below.ensures.within; fits_to = c.up_to.ensures.within; from = c.below.ensures.point; to = c.up_to.ensures.point })
