-- What is found at an element of a list, with those before and those behind it.
use Rattle.std.specs.Prelude.{◌≡◌, ℕ, List, ◌∷◌, ◌++◌}

pub record Found {X : Type 0} (P : List X → X → List X → ℕ → ℕ → Type 0) (xs : List X) (line code : ℕ) : Type 0 where
  pub before : List X
  pub here : X
  pub after : List X
  pub whole : xs ≡ before ++ here ∷ after
  pub faulty : P before here after line code
