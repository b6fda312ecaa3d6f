-- Derived values: the results of `getelementptr`s, and of the phis and selects that use a derived value.
use Rattle.std.specs.Prelude.{◌≡◌, ℕ, Bool, List, length, Some, slice_get}
use Rattle.std.specs.List.{Contains}
use Rattle.graph_search.specs.Paths.{Marked}
use Rattle.derived_values.specs.Givens.{Given, step, merge}

-- a phi or select uses the value
pub record UsedBy (givers : List Given) (value user : ℕ) : Type 0 where
  pub values : List ℕ
  pub stands : slice_get givers user ≡ Some (merge values)
  pub used : Contains values value

pub data DerivedIn (givers : List Given) : ℕ → Type 0 where
  at_step : (value : ℕ) → slice_get givers value ≡ Some step → DerivedIn givers value
  at_use : (value user : ℕ) → UsedBy givers value user → DerivedIn givers value → DerivedIn givers user

-- a mark for each value, on those that are derived
pub record AreMarks (givers : List Given) (marks : List Bool) : Type 0 where
  pub whole : length marks ≡ length givers
  pub sound : (value : ℕ) → Marked marks value → DerivedIn givers value
  pub complete : (value : ℕ) → DerivedIn givers value → Marked marks value
