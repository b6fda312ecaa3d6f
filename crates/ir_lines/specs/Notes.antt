-- Keeping the first fault of those that were found.
use Rattle.std.specs.Prelude.{◌≡◌, ℕ, ◌⊎◌, Option, Some, None}
use Rattle.ir_lines.specs.declared.faults.Fault.{Fault}
use Rattle.ir_lines.specs.FaultOrder.{ComesFirst}

-- a fault is kept, and it is this one or comes before it
pub record IsUpTo (kept : Option Fault) (line code : ℕ) : Type 0 where
  pub fault : Fault
  pub is : kept ≡ Some fault
  pub first : ComesFirst fault.line fault.code line code

-- where a kept fault comes from: it was kept before, or it was found
abbrev pub HasSource : Option Fault → Option Fault → (ℕ → ℕ → Type 0) → Type 0
HasSource old None found = Unit {0}
HasSource old (Some fault) found = (old ≡ Some fault) ⊎ found fault.line fault.code

-- what is kept is the first of what was kept before and of what was found
pub record Notes (old new : Option Fault) (found : ℕ → ℕ → Type 0) : Type 0 where
  pub source : HasSource old new found
  pub earlier : (fault : Fault) → old ≡ Some fault → IsUpTo new fault.line fault.code
  pub least : (line code : ℕ) → found line code → IsUpTo new line code

-- this line with this code
abbrev pub Is : ℕ → ℕ → ℕ → ℕ → Type 0
Is line code other_line other_code = (other_line ≡ line) × (other_code ≡ code)
