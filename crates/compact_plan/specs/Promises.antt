-- What is promised of the plan that compacts.
use Rattle.std.specs.Prelude.{◌≡◌, ◌≢◌, ℕ, ◌<◌, ◌≤◌, ◌^◌, List, ◌++◌, length, map, Option}
use Rattle.std.specs.List.{All}
use Rattle.move_plan.specs.declared.plan_lines.PlanLine.{PlanLine}
use Rattle.move_plan.specs.Plans.{IsPlan, flips, go, group}
use Rattle.moving_heap.specs.declared.stands.Stand.{Stand}
use Rattle.moving_heap.specs.Places.{carried, group_moves, verdict}
use Rattle.moving_heap.specs.Settled.{AreSettled}
use Rattle.made_objects.specs.declared.makes.Made.{Made}
use Rattle.compact_plan.specs.Compacting.{compacted}
use Rattle.made_objects.specs.Packed.{ArePacked}
use Rattle.compact_plan.specs.Packed.{laid, packing_verdict}

-- an event has a number from 1, of 64 bits
abbrev pub IsEvent : ℕ → Type 0
IsEvent event = (1 ≤ event) × (event < 2 ^ 64)

-- it is a plan, where it isn't too long
abbrev pub CompactedIsPlan : Type 0
CompactedIsPlan = (plan : List PlanLine) (made : List Made) (event : ℕ) → IsPlan plan → ArePacked made → IsEvent event
    → length (compacted plan made event) ≤ 262144 → IsPlan (compacted plan made event)

-- what it says of tasks and flips, and of the moves of all other events, is what the plan says
pub record SaysTheSame (plan now : List PlanLine) (event : ℕ) : Type 0 where
  pub go : (at : ℕ) → go now at ≡ go plan at
  pub flips : (at : ℕ) → flips now at ≡ flips plan at
  pub group : (at : ℕ) → at ≢ event → group now at ≡ group plan at

abbrev pub OthersStay : Type 0
OthersStay = (plan : List PlanLine) (made : List Made) (event : ℕ) → SaysTheSame plan (compacted plan made event) event

-- the objects that stand when an event comes: those made before it, by number, and those made later come behind them
pub record AreBefore (event : ℕ) (made : List Made) (stands : List Stand) : Type 0 where
  pub later : List Made
  pub early : List Made
  pub split : made ≡ early ++ later
  pub before : All (λ one. one.event < event) early
  pub behind : All (λ one. event ≤ one.event) later
  pub sizes : map (λ (stand : Stand). stand.size) stands ≡ map (λ (one : Made). one.footprint) early

-- the event's group is legal, or empty where nothing stands, whether the event flips or not; and it lays the objects side by side from 2^40
pub record LaysSideBySide (plan : List PlanLine) (event : ℕ) (flip : Option ℕ) (stands : List Stand) : Type 0 where
  pub verdict : verdict stands (group plan event) flip ≡ packing_verdict stands
  pub places : map (carried (group_moves stands (group plan event) flip)) stands ≡ laid (2 ^ 40) stands

abbrev pub EventCompacts : Type 0
EventCompacts = (plan : List PlanLine) (made : List Made) (event : ℕ) (flip : Option ℕ) (stands : List Stand) → AreSettled stands → AreBefore event made stands
    → LaysSideBySide (compacted plan made event) event flip stands
