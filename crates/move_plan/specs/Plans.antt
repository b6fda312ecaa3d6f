-- A plan: its lines in order, and what they say of an event.
use Rattle.std.specs.Prelude.{◌≡◌, ℕ, ◌≤◌, ◌%◌, Bool, false, ◌==◌, if◌then◌else◌, List, length, slice_get, Option, Some, None}
use Rattle.std.specs.List.{All, list_any, filter_map}
use Rattle.std.specs.List.Sorted.{IsNonDecreasingBy}
use Rattle.move_plan.specs.declared.plan_lines.Move.{Move}
use Rattle.move_plan.specs.declared.plan_lines.PlanLine.{PlanLine}
use Rattle.move_plan.specs.declared.plan_lines.PlanLine.TheVariants as lines
use Rattle.move_plan.specs.Texts.{TextSays}
use Rattle.move_plan.specs.PlanLines.{ReadsAs, IsInRange}

-- the plan that a text stands for
abbrev pub IsPlanOf : List ℕ → List PlanLine → Type 0
IsPlanOf text plan = TextSays ReadsAs text plan

-- ---- what the lines of an event say

-- the move of a line for this event
abbrev pub move_at : ℕ → PlanLine → Option Move
move_at k (lines.Move event obj to) = if event == k then Some (record { obj = obj; to = to }) else None
move_at k _ = None

-- the moves of the event's lines, in order
abbrev pub group : List PlanLine → ℕ → List Move
group plan k = filter_map (move_at k) plan

-- the task of a `go` line for this event
abbrev pub task_at : ℕ → PlanLine → Option ℕ
task_at k (lines.Go event task) = if event == k then Some task else None
task_at k _ = None

-- the task that the event's `go` line names; a plan has at most one such line
abbrev pub go : List PlanLine → ℕ → Option ℕ
go plan k = slice_get (filter_map (task_at k) plan) 0

-- a line by which this event flips
abbrev pub flips_at : ℕ → PlanLine → Bool
flips_at k (lines.Every period) = k % period == 0
flips_at k (lines.Flip event) = event == k
flips_at k _ = false

abbrev pub flips : List PlanLine → ℕ → Bool
flips plan k = list_any (flips_at k) plan

-- ---- which lines are a plan

-- the event of an `at` line; an `every` line stands before all events
abbrev pub event_of : PlanLine → ℕ
event_of (lines.Every period) = 0
event_of (lines.Move event obj to) = event
event_of (lines.Flip event) = event
event_of (lines.Go event task) = event

-- events don't fall, `every` stands first, no event has two `go` lines, and there are not too many lines
pub record IsPlan (plan : List PlanLine) : Type 0 where
  pub in_range : All IsInRange plan
  pub rises : IsNonDecreasingBy event_of plan
  pub every_first : (place period : ℕ) → slice_get plan place ≡ Some (lines.Every period) → place ≡ 0
  pub one_go : (place other event task another : ℕ) → slice_get plan place ≡ Some (lines.Go event task)
      → slice_get plan other ≡ Some (lines.Go event another) → place ≡ other
  pub few : length plan ≤ 262144
