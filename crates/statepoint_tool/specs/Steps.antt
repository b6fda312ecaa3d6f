-- The work as a chain of phases: each goes on with a value or stops with a cause.
use Rattle.std.specs.Prelude.{◌≡◌}
use Rattle.statepoint_tool.specs.declared.refusal.Cause.{Cause}

pub data Step (A : Type 0) : Type 0 where
  Go : A → Step A
  Stop : Cause → Step A

-- a phase is the steps that it comes to; this one comes to one step
abbrev pub comes_to : {A : Type 0} → Step A → Step A → Type 0
comes_to due step = step ≡ due

-- what follows a phase sees its value, and nothing follows a phase that stops
pub data Then {A B : Type 0} (first : Step A → Type 0) (next : A → Step B → Type 0) : Step B → Type 0 where
  goes_on : (value : A) (step : Step B) → first (Go value) → next value step → Then first next step
  stops : (cause : Cause) → first (Stop cause) → Then first next (Stop cause)
