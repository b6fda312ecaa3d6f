-- The users of values, by number, and the steps from which a search along them begins.
use Rattle.std.specs.Prelude.{◌≡◌, ℕ, ◌<◌, ◌⊎◌, List, [], ◌∷◌, ◌++◌, length, Some, slice_get}
use Rattle.std.specs.List.{Contains}
use Rattle.graph_search.specs.Edges.{Edge}
use Rattle.derived_values.specs.Givens.{Given, other, step, merge}
use Rattle.derived_values.specs.Deriveds.{UsedBy}

-- the user is added to those of these values, as far as the values have rows
pub record AddsUsers (values : List ℕ) (user : ℕ) (old new : List (List ℕ)) : Type 0 where
  pub whole : length new ≡ length old
  pub kept : (value one : ℕ) → Edge old value one → Edge new value one
  pub added : (value : ℕ) → Contains values value → value < length old → Edge new value user
  pub source : (value one : ℕ) → Edge new value one → Edge old value one ⊎ (Contains values value × (one ≡ user))

-- what a value that is given so adds to the steps and to the users
abbrev pub Notes : Given → ℕ → List ℕ → List ℕ → List (List ℕ) → List (List ℕ) → Type 0
Notes other value old new rows more = (new ≡ old) × (more ≡ rows)
Notes step value old new rows more = (new ≡ old ++ value ∷ []) × (more ≡ rows)
Notes (merge values) value old new rows more = (new ≡ old) × AddsUsers values value rows more

-- the steps and the users among so many values
pub record AreSources (givers : List Given) (count : ℕ) (found : List ℕ) (users : List (List ℕ)) : Type 0 where
  pub whole : length users ≡ length givers
  pub step_found : (value : ℕ) → Contains found value → (value < count) × (slice_get givers value ≡ Some step)
  pub step_kept : (value : ℕ) → value < count → slice_get givers value ≡ Some step → Contains found value
  pub use_found : (value user : ℕ) → Edge users value user → (user < count) × UsedBy givers value user
  pub use_kept : (value user : ℕ) → user < count → UsedBy givers value user → value < length givers → Edge users value user
