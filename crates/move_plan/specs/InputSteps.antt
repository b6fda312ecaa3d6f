-- One more line behind those that held some numbers.
use Rattle.std.specs.Prelude.{◌≡◌, ◌⊎◌, ℕ, ℤ, ◌+◌, ◌≤◌, List, ◌++◌, length, Option, Some, None}
use Rattle.std.specs.Option.{option_to_list}
use Rattle.move_plan.specs.declared.faults.InputFault.{InputFault}
use Rattle.move_plan.specs.declared.faults.InputFault.TheVariants as faults
use Rattle.move_plan.specs.Texts.{HasNoReading}
use Rattle.move_plan.specs.InputNumbers.{Holds, HoldsNumber}

-- there is room for what the line holds
abbrev pub HasRoom : List ℤ → Option ℤ → Type 0
HasRoom numbers None = Unit {0}
HasRoom numbers (Some n) = length numbers + 1 ≤ 1048576

-- a line was taken
pub record TakesNumber (numbers : List ℤ) (line : List ℕ) (next : List ℤ) : Type 0 where
  pub held : Option ℤ
  pub holds : Holds line held
  pub room : HasRoom numbers held
  pub added : next ≡ numbers ++ option_to_list held

-- a line holds the first number too many
pub record IsOverLimit (numbers : List ℤ) (line : List ℕ) : Type 0 where
  pub number : ℤ
  pub holds : HoldsNumber line number
  pub full : 1048576 ≤ length numbers

-- a line can't be taken
abbrev pub StopsAtNumber : List ℤ → ℕ → List ℕ → InputFault → Type 0
StopsAtNumber numbers number line (faults.Line at) = (at ≡ number) × (HasNoReading Holds line ⊎ IsOverLimit numbers line)
StopsAtNumber numbers number line faults.Memory = Unit {0}
