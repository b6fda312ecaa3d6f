-- What is proved of trimmed runs.
use Rattle.std.specs.Prelude.{ℕ, ℤ, ◌↔◌, List}
use Rattle.object_meaning.specs.States.{Setting}
use Rattle.object_meaning.specs.Outcomes.{Outcome, Gives}
use Rattle.trimmed_laws.specs.Trims.{Trim}
use Rattle.trimmed_laws.specs.Trimmed.{IsTrimmed}

-- a run some of whose lines went gives what the run gives: lines, end, function, steps, events, accesses and objects
abbrev pub TrimmedGiveTheSame : Type 0
TrimmedGiveTheSame = (trims : ℕ → Trim) (one other : Setting) → IsTrimmed trims one other
    → (input : List ℤ) (outcome : Outcome) → Gives one input outcome ↔ Gives other input outcome
