-- Where objects stand in the end of a run, and the verdict of each event, by its events, its objects and the plan alone.
use Rattle.std.specs.Prelude.{ℕ, List, [], ◌∷◌}
use Rattle.tool_io.specs.Counts.{raised}
use Rattle.move_plan.specs.declared.plan_lines.PlanLine.{PlanLine}
use Rattle.move_plan.specs.Plans.{group, flips}
use Rattle.moving_heap.specs.declared.stands.Stand.{Stand}
use Rattle.moving_heap.specs.declared.stands.Verdict.{Verdict}
use Rattle.moving_heap.specs.Places.{verdict}
use Rattle.object_meaning.specs.Traces.{Event, at_poll, at_new}
use Rattle.machine_meaning.specs.EventPlaces.{MovePlan, Occasion, polls, makes, flip_of, stands_at_event}

-- the moves that a plan names
abbrev pub moves_in : List PlanLine → MovePlan
moves_in plan = record { group = group plan; flips = flips plan }

-- what happens at these events: each new object takes the next of these footprints; where none is left it isn't made, since the run
-- trapped there
abbrev pub occasions : List Event → List ℕ → List Occasion
occasions [] sizes = []
occasions (at_poll ∷ events) sizes = polls ∷ occasions events sizes
occasions (at_new ∷ events) [] = polls ∷ occasions events []
occasions (at_new ∷ events) (size ∷ sizes) = makes size ∷ occasions events sizes

-- where objects stand that stood so before these events, the first of which comes after so many others. The number of an event
-- stands still at 2^64 - 1
abbrev pub stands_behind : MovePlan → ℕ → List Stand → List Occasion → List Stand
stands_behind plan before stands [] = stands
stands_behind plan before stands (occasion ∷ rest) =
    stands_behind plan (raised before) (stands_at_event plan (raised before) stands occasion) rest

abbrev pub verdicts_behind : MovePlan → ℕ → List Stand → List Occasion → List Verdict
verdicts_behind plan before stands [] = []
verdicts_behind plan before stands (occasion ∷ rest) =
    verdict stands (plan.group (raised before)) (flip_of plan (raised before))
    ∷ verdicts_behind plan (raised before) (stands_at_event plan (raised before) stands occasion) rest

-- those of a run with these events and, in the end, objects of these sizes, under this plan
abbrev pub stands_by : List PlanLine → List Event → List ℕ → List Stand
stands_by plan events sizes = stands_behind (moves_in plan) 0 [] (occasions events sizes)

abbrev pub verdicts_by : List PlanLine → List Event → List ℕ → List Verdict
verdicts_by plan events sizes = verdicts_behind (moves_in plan) 0 [] (occasions events sizes)
