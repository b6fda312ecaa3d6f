-- One more line behind those of a plan.
use Rattle.std.specs.Prelude.{◌≡◌, ℕ, ◌-◌, ◌<◌, ◌≤◌, Bool, true, false, not, nat_lt, if◌then◌else◌, List, [], ◌∷◌, ◌++◌, length, slice_get, Option, Some, None}
use Rattle.std.specs.Option.{is_some, option_map_or, option_to_list}
use Rattle.move_plan.specs.declared.faults.PlanFault.{PlanFault}
use Rattle.move_plan.specs.declared.faults.PlanFault.TheVariants as faults
use Rattle.move_plan.specs.declared.plan_lines.PlanLine.{PlanLine}
use Rattle.move_plan.specs.declared.plan_lines.PlanLine.TheVariants as lines
use Rattle.move_plan.specs.Texts.{HasNoReading}
use Rattle.move_plan.specs.PlanLines.{ReadsAs}
use Rattle.move_plan.specs.Plans.{event_of, go}

abbrev pub is_empty : List PlanLine → Bool
is_empty [] = true
is_empty (line ∷ more) = false

-- the event of the last line, and 0 where there is none
abbrev pub last_event : List PlanLine → ℕ
last_event plan = option_map_or event_of (slice_get plan (length plan - 1)) 0

-- the line is out of order
abbrev pub is_late : List PlanLine → PlanLine → Bool
is_late plan (lines.Every period) = not (is_empty plan)
is_late plan (lines.Move event obj to) = nat_lt event (last_event plan)
is_late plan (lines.Flip event) = nat_lt event (last_event plan)
is_late plan (lines.Go event task) = nat_lt event (last_event plan)

-- it is the event's second `go` line
abbrev pub is_second_go : List PlanLine → PlanLine → Bool
is_second_go plan (lines.Go event task) = is_some (go plan event)
is_second_go plan _ = false

-- the fault of a line that says this, if it has one
abbrev pub fault_behind : List PlanLine → PlanLine → ℕ → Option PlanFault
fault_behind plan what number =
    if is_late plan what then Some (faults.Order number) else if is_second_go plan what then Some (faults.TwoGo number) else None

-- the line may stand behind those of the plan
abbrev pub MayFollow : List PlanLine → Option PlanLine → Type 0
MayFollow plan None = Unit {0}
MayFollow plan (Some what) = (is_late plan what ≡ false) × (is_second_go plan what ≡ false)

-- a line was taken
pub record TakesLine (plan : List PlanLine) (number : ℕ) (line : List ℕ) (next : List PlanLine) : Type 0 where
  pub reading : Option PlanLine
  pub reads : ReadsAs line reading
  pub follows : MayFollow plan reading
  pub within : number ≤ 262144
  pub added : next ≡ plan ++ option_to_list reading

-- a line can't be taken
pub record IsLate (plan : List PlanLine) (line : List ℕ) : Type 0 where
  pub what : PlanLine
  pub reads : ReadsAs line (Some what)
  pub late : is_late plan what ≡ true

pub record IsSecondGo (plan : List PlanLine) (line : List ℕ) : Type 0 where
  pub what : PlanLine
  pub reads : ReadsAs line (Some what)
  pub in_order : is_late plan what ≡ false
  pub second : is_second_go plan what ≡ true

pub record IsOverLimit (plan : List PlanLine) (number : ℕ) (line : List ℕ) : Type 0 where
  pub reading : Option PlanLine
  pub reads : ReadsAs line reading
  pub follows : MayFollow plan reading
  pub over : 262144 < number

abbrev pub StopsAt : List PlanLine → ℕ → List ℕ → PlanFault → Type 0
StopsAt plan number line (faults.Syntax at) = (at ≡ number) × HasNoReading ReadsAs line
StopsAt plan number line (faults.Order at) = (at ≡ number) × IsLate plan line
StopsAt plan number line (faults.TwoGo at) = (at ≡ number) × IsSecondGo plan line
StopsAt plan number line (faults.Limit at) = (at ≡ number) × IsOverLimit plan number line
StopsAt plan number line faults.Memory = Unit {0}
