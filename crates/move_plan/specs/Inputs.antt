-- The input that a text stands for, and its first fault.
use Rattle.std.specs.Prelude.{◌≡◌, ℕ, ℤ, ◌≤◌, ◌-◌, List, length, take, Some}
use Rattle.std.specs.Str.Lines.{lines}
use Rattle.move_plan.specs.declared.faults.InputFault.{InputFault}
use Rattle.move_plan.specs.declared.faults.InputFault.TheVariants as faults
use Rattle.move_plan.specs.Texts.{HasLine, HasNoReading, LinesSay, TextSays}
use Rattle.move_plan.specs.InputNumbers.{Holds}

abbrev pub IsInputOf : List ℕ → List ℤ → Type 0
IsInputOf text numbers = TextSays Holds text numbers

-- the lines before this one hold these numbers
abbrev pub HeldBefore : List ℕ → ℕ → List ℤ → Type 0
HeldBefore text number numbers = LinesSay Holds (take (number - 1) (lines text)) numbers

pub data HasInputFault (text : List ℕ) (number : ℕ) : Type 0 where
  -- the line is neither blank nor a number
  unread : (line : List ℕ) → HasLine text number line → HasNoReading Holds line → HasInputFault text number
  -- it holds the first number too many
  too_many : (line : List ℕ) (n : ℤ) (numbers : List ℤ) → HasLine text number line → Holds line (Some n)
      → HeldBefore text number numbers → length numbers ≡ 1048576 → HasInputFault text number

abbrev pub HasNoInputFault : List ℕ → Type 0
HasNoInputFault text = (number : ℕ) → ¬ HasInputFault text number

pub record IsFirstInputFault (text : List ℕ) (number : ℕ) : Type 0 where
  pub is : HasInputFault text number
  pub first : (other : ℕ) → HasInputFault text other → number ≤ other

-- the fault that is told is the first one; want of memory says nothing of the text
abbrev pub IsInputFaultOf : List ℕ → InputFault → Type 0
IsInputFaultOf text (faults.Line line) = IsFirstInputFault text line
IsInputFaultOf text faults.Memory = Unit {0}
