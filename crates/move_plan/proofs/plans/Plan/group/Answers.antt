use Rattle.std.proofs.Common.{◌∙◌, ap, subst, length, arith, ℕ, List}
use Rattle.std.specs.Prelude.{slice_range}
use Rattle.move_plan.specs.Plans.{group}
use Rattle.move_plan.proofs.GroupLemmas.{events-rise, moves_fit, group-slice}
use Rattle.move_plan.proofs.SortedLemmas.{ArePlacesOf}
use Rattle.move_plan.proofs.plans.Plan.group.Goals as goal

pub events_below-from-requires : goal.events_below-from-requires
events_below-from-requires c =
    rw c.as_slice-events.ensures.value (events-rise c.self.inside.lines.items c.self.inside.events.items c.self.invariant.plan_is.rises c.self.invariant.events_are)

pub events_up_to-to-requires : goal.events_up_to-to-requires
events_up_to-to-requires c =
    rw c.as_slice-events.ensures.value (events-rise c.self.inside.lines.items c.self.inside.events.items c.self.invariant.plan_is.rises c.self.invariant.events_are)

pub between-requires-clause-within : goal.between-requires-clause-within
between-requires-clause-within c =
    let same = moves_fit c.self.inside.lines.items c.self.inside.moves.items c.self.inside.events.items c.self.invariant in
    let events = ap length c.as_slice-events.ensures.value in
    let moves = ap length c.as_slice.ensures.value in
    omega (arith, c.events_up_to-to.ensures.within, same, events, moves)

pub returns : goal.returns
returns c =
    let places = subst (λ (xs : List ℕ). ArePlacesOf (λ m. m) xs c.args.event c.events_below-from.result c.events_up_to-to.result) c.as_slice-events.ensures.value
    (record { fits_from = c.events_below-from.ensures.within; fits_to = c.events_up_to-to.ensures.within; from = c.events_below-from.ensures.point; to = c.events_up_to-to.ensures.point }) in
    c.between.ensures
    ∙ ap (λ xs. slice_range xs c.events_below-from.result c.events_up_to-to.result) c.as_slice.ensures.value
    ∙ group-slice c.self.inside.lines.items c.self.inside.moves.items c.self.inside.events.items c.args.event c.events_below-from.result c.events_up_to-to.result c.self.invariant places
    ∙ ap (λ plan. group plan c.args.event) c.self.view_is
