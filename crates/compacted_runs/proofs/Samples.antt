-- A worked case: two nodes of 16 bytes, made at events 2 and 3, change places at event 4 and are laid side by side at event 5.
use Rattle.std.proofs.Common.{◌≡◌, refl, ℕ, List, [], ◌∷◌}
use Rattle.move_plan.specs.declared.plan_lines.PlanLine.{PlanLine}
use Rattle.move_plan.specs.declared.plan_lines.PlanLine.TheVariants.{Move}
use Rattle.moving_heap.specs.declared.stands.Verdict.TheVariants.{Empty, Legal}
use Rattle.object_meaning.specs.Traces.{Event, at_new, at_poll}
use Rattle.made_objects.specs.Makings.{makings}
use Rattle.compact_plan.specs.Compacting.{compacted}
use Rattle.rewritten_runs.specs.Places.{stands_by, verdicts_by}

abbrev events : List Event
events = at_poll ∷ at_new ∷ at_new ∷ at_poll ∷ at_poll ∷ []

abbrev sizes : List ℕ
sizes = 16 ∷ 16 ∷ []

abbrev plan : List PlanLine
plan = Move 4 1 1099511627792 ∷ Move 4 2 1099511627776 ∷ []

before : stands_by plan events sizes
    ≡ record { number = 1; size = 16; address = 1099511627792 } ∷ record { number = 2; size = 16; address = 1099511627776 } ∷ []
before = refl

side_by_side : stands_by (compacted plan (makings events sizes) 5) events sizes
    ≡ record { number = 1; size = 16; address = 1099511627776 } ∷ record { number = 2; size = 16; address = 1099511627792 } ∷ []
side_by_side = refl

verdicts : verdicts_by (compacted plan (makings events sizes) 5) events sizes ≡ Empty ∷ Empty ∷ Empty ∷ Legal ∷ Legal ∷ []
verdicts = refl

-- at event 2 nothing stands yet
none_stands : verdicts_by (compacted plan (makings events sizes) 2) events sizes ≡ Empty ∷ Empty ∷ Empty ∷ Legal ∷ Empty ∷ []
none_stands = refl
