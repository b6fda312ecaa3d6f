-- Two objects that are made, change places in the upper half, and are flipped.
use Rattle.std.proofs.Common.{◌≡◌, ◌+◌, ◌^◌, List, [], ◌∷◌, Some, None, refl}
use Rattle.move_plan.specs.declared.plan_lines.PlanLine.{PlanLine}
use Rattle.move_plan.specs.declared.plan_lines.PlanLine.TheVariants.{Move, Flip}
use Rattle.move_plan.specs.Plans.{group, flips}
use Rattle.moving_heap.specs.declared.stands.Verdict.TheVariants.{Empty, Legal, Illegal}
use Rattle.machine_meaning.specs.EventPlaces.{MovePlan, Occasion, polls, makes, place_after, verdicts_from}

abbrev lines : List PlanLine
lines = Move 4 1 1099511627792 ∷ Move 4 2 1099511627776 ∷ Move 5 1 1099511627784 ∷ Flip 7 ∷ []

abbrev plan : MovePlan
plan = record { group = group lines; flips = flips lines }

abbrev occasions : List Occasion
occasions = polls ∷ makes 16 ∷ makes 16 ∷ polls ∷ polls ∷ makes 8 ∷ polls ∷ []

verdicts : verdicts_from plan 1 [] occasions ≡ Empty ∷ Empty ∷ Empty ∷ Legal ∷ Illegal ∷ Empty ∷ Legal ∷ []
verdicts = refl

first_made : place_after plan occasions 3 1 ≡ Some 65536
first_made = refl

not_made_yet : place_after plan occasions 2 2 ≡ None
not_made_yet = refl

swapped : place_after plan occasions 5 1 ≡ Some 1099511627792
swapped = refl

-- behind the footprints of all before it, wherever these stand
third_made : place_after plan occasions 6 3 ≡ Some 65568
third_made = refl

flipped : place_after plan occasions 7 3 ≡ Some (2 ^ 44 + 32)
flipped = refl
