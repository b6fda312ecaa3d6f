-- Where objects stand after an event, by events and the plan alone.
use Rattle.std.specs.Prelude.{ℕ, ◌+◌, Bool, if◌then◌else◌, List, [], ◌∷◌, ◌++◌, map, take, Option, Some, None}
use Rattle.std.specs.Option.{option_map}
use Rattle.move_plan.specs.declared.plan_lines.Move.{Move}
use Rattle.moving_heap.specs.declared.stands.Stand.{Stand}
use Rattle.moving_heap.specs.declared.stands.Verdict.{Verdict}
use Rattle.moving_heap.specs.Places.{carried, group_moves, new_stand, verdict}
use Rattle.moving_heap.specs.Heaps.{of_number}

-- an event: a poll, or a new object with this footprint
pub data Occasion : Type 0 where
  polls : Occasion
  makes : ℕ → Occasion

-- the lines and the flips of a plan, by events
pub record MovePlan : Type 0 where
  pub group : ℕ → List Move
  pub flips : ℕ → Bool

abbrev pub flip_of : MovePlan → ℕ → Option ℕ
flip_of plan event = if plan.flips event then Some event else None

-- the moves of an event happen first
abbrev pub moved_at : MovePlan → ℕ → List Stand → List Stand
moved_at plan event stands = map (carried (group_moves stands (plan.group event) (flip_of plan event))) stands

-- then an object may be made
abbrev pub made_at : List Stand → Occasion → List Stand
made_at stands polls = stands
made_at stands (makes size) = stands ++ new_stand stands size ∷ []

abbrev pub stands_at_event : MovePlan → ℕ → List Stand → Occasion → List Stand
stands_at_event plan event stands occasion = made_at (moved_at plan event stands) occasion

-- the objects after these events, of which the first has this number
abbrev pub stands_from : MovePlan → ℕ → List Stand → List Occasion → List Stand
stands_from plan event stands [] = stands
stands_from plan event stands (occasion ∷ occasions) =
    stands_from plan (event + 1) (stands_at_event plan event stands occasion) occasions

abbrev pub verdicts_from : MovePlan → ℕ → List Stand → List Occasion → List Verdict
verdicts_from plan event stands [] = []
verdicts_from plan event stands (occasion ∷ occasions) =
    verdict stands (plan.group event) (flip_of plan event)
    ∷ verdicts_from plan (event + 1) (stands_at_event plan event stands occasion) occasions

-- the address of an object after the first so many events; none, where it doesn't exist by then
abbrev pub place_after : MovePlan → List Occasion → ℕ → ℕ → Option ℕ
place_after plan occasions events object =
    option_map (λ stand. stand.address) (of_number (stands_from plan 1 [] (take events occasions)) object)
