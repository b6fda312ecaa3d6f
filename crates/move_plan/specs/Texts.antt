-- Texts of which each line that isn't blank says one thing.
use Rattle.std.specs.Prelude.{◌≡◌, ℕ, ◌+◌, List, Option, Some, slice_get}
use Rattle.std.specs.List.{AllZip, filter_map}
use Rattle.std.specs.Str.Lines.{lines}

-- the text has this line under this number
pub record HasLine (text : List ℕ) (number : ℕ) (line : List ℕ) : Type 0 where
  pub place : ℕ
  pub counted : number ≡ place + 1
  pub stands : slice_get (lines text) place ≡ Some line

-- the line has no reading, not even that of a blank one
abbrev pub HasNoReading : {X : Type 0} → (List ℕ → Option X → Type 0) → List ℕ → Type 0
HasNoReading {X} reads line = (reading : Option X) → ¬ reads line reading

-- each line has a reading, and these say all this, in order
pub record LinesSay {X : Type 0} (reads : List ℕ → Option X → Type 0) (ls : List (List ℕ)) (all : List X) : Type 0 where
  pub readings : List (Option X)
  pub each : AllZip reads ls readings
  pub given : all ≡ filter_map (λ reading. reading) readings

abbrev pub TextSays : {X : Type 0} → (List ℕ → Option X → Type 0) → List ℕ → List X → Type 0
TextSays reads text all = LinesSay reads (lines text) all
