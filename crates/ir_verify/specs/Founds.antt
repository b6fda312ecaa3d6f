-- What is found at the places of a list.
use Rattle.std.specs.Prelude.{◌≡◌, ℕ, ◌<◌, List, length, Some, slice_get}

-- at the places below an end
pub record FoundBelow {X : Type 0} (P : ℕ → X → ℕ → ℕ → Type 0) (xs : List X) (end line code : ℕ) : Type 0 where
  pub place : ℕ
  pub below : place < end
  pub here : X
  pub stands : slice_get xs place ≡ Some here
  pub faulty : P place here line code

-- at all places
abbrev pub FoundIn : {X : Type 0} → (ℕ → X → ℕ → ℕ → Type 0) → List X → ℕ → ℕ → Type 0
FoundIn P xs = FoundBelow P xs (length xs)
