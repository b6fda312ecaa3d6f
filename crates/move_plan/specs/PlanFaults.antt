-- The faults of a plan's text, and the least of them.
use Rattle.std.specs.Prelude.{◌≡◌, ℕ, ◌+◌, ◌<◌, ◌≤◌, ◌⊎◌, List, Option, Some, None}
use Rattle.move_plan.specs.declared.faults.PlanFault.{PlanFault}
use Rattle.move_plan.specs.declared.faults.PlanFault.TheVariants as faults
use Rattle.move_plan.specs.declared.plan_lines.PlanLine.{PlanLine}
use Rattle.move_plan.specs.declared.plan_lines.PlanLine.TheVariants as lines
use Rattle.move_plan.specs.Words.{IsBlank}
use Rattle.move_plan.specs.Texts.{HasLine, HasNoReading}
use Rattle.move_plan.specs.PlanLines.{ReadsAs}

-- the event of an `at` line
abbrev pub at_event : PlanLine → Option ℕ
at_event (lines.Every period) = None
at_event (lines.Move event obj to) = Some event
at_event (lines.Flip event) = Some event
at_event (lines.Go event task) = Some event

-- the text's line of this number says this
pub record LineSays (text : List ℕ) (number : ℕ) (what : PlanLine) : Type 0 where
  pub line : List ℕ
  pub has : HasLine text number line
  pub reads : ReadsAs line (Some what)

abbrev pub syntax : ℕ
syntax = 1

abbrev pub order : ℕ
order = 2

abbrev pub two_go : ℕ
two_go = 3

abbrev pub limit : ℕ
limit = 4

-- the set: a line and a code
pub data HasFault (text : List ℕ) (number code : ℕ) : Type 0 where
  -- the line has no form
  no_form : (line : List ℕ) → HasLine text number line → HasNoReading ReadsAs line → code ≡ syntax → HasFault text number code
  -- its event is below that of an earlier line
  falls : (earlier above event : ℕ) (before what : PlanLine) → earlier < number → LineSays text earlier before → at_event before ≡ Some above
      → LineSays text number what → at_event what ≡ Some event → event < above → code ≡ order → HasFault text number code
  -- `every`, where an earlier line isn't blank
  late : (earlier period : ℕ) (line : List ℕ) → earlier < number → HasLine text earlier line → ¬ IsBlank line
      → LineSays text number (lines.Every period) → code ≡ order → HasFault text number code
  -- a second `go` line of an event
  second_go : (earlier event task other : ℕ) → earlier < number → LineSays text earlier (lines.Go event task)
      → LineSays text number (lines.Go event other) → code ≡ two_go → HasFault text number code
  -- the first line too many, blank lines counted
  too_many : (line : List ℕ) → HasLine text number line → number ≡ 262144 + 1 → code ≡ limit → HasFault text number code

abbrev pub HasNoFault : List ℕ → Type 0
HasNoFault text = (number code : ℕ) → ¬ HasFault text number code

-- an earlier line, or the same line and no greater code
abbrev pub ComesFirst : ℕ → ℕ → ℕ → ℕ → Type 0
ComesFirst number code other_number other_code = (number < other_number) ⊎ ((number ≡ other_number) × (code ≤ other_code))

pub record IsLeastFault (text : List ℕ) (number code : ℕ) : Type 0 where
  pub is : HasFault text number code
  pub least : (other_number other_code : ℕ) → HasFault text other_number other_code → ComesFirst number code other_number other_code

-- the fault that is told is the least of the text; want of memory says nothing of it
abbrev pub IsFaultOf : List ℕ → PlanFault → Type 0
IsFaultOf text (faults.Syntax line) = IsLeastFault text line syntax
IsFaultOf text (faults.Order line) = IsLeastFault text line order
IsFaultOf text (faults.TwoGo line) = IsLeastFault text line two_go
IsFaultOf text (faults.Limit line) = IsLeastFault text line limit
IsFaultOf text faults.Memory = Unit {0}
