-- The tables in which the lines of an event are found.
use Rattle.std.specs.Prelude.{◌≡◌, ℕ, ◌%◌, Bool, true, false, ◌==◌, List, ◌∷◌, Option, Some, None}
use Rattle.std.specs.List.{filter_map}
use Rattle.move_plan.specs.declared.plan_lines.Move.{Move}
use Rattle.move_plan.specs.declared.plan_lines.PlanLine.{PlanLine}
use Rattle.move_plan.specs.declared.plan_lines.PlanLine.TheVariants as lines
use Rattle.move_plan.specs.Plans.{IsPlan}

abbrev pub move_of : PlanLine → Option Move
move_of (lines.Move event obj to) = Some (record { obj = obj; to = to })
move_of _ = None

abbrev pub moved_at : PlanLine → Option ℕ
moved_at (lines.Move event obj to) = Some event
moved_at _ = None

abbrev pub task_of : PlanLine → Option ℕ
task_of (lines.Go event task) = Some task
task_of _ = None

abbrev pub is_flip : PlanLine → Bool
is_flip (lines.Flip event) = true
is_flip _ = false

-- the moves of a plan, and beside them their events
pub record AreTables (plan : List PlanLine) (moves : List Move) (events : List ℕ) : Type 0 where
  pub plan_is : IsPlan plan
  pub moves_are : moves ≡ filter_map move_of plan
  pub events_are : events ≡ filter_map moved_at plan

-- the event is a multiple of the number of the line `every`, which stands first
abbrev pub flips_each : List PlanLine → ℕ → Bool
flips_each (lines.Every period ∷ more) k = k % period == 0
flips_each _ k = false
