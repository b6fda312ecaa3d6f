-- Marks of values; a value past the end has none.
use Rattle.std.specs.Prelude.{◌≡◌, ℕ, ◌||◌, Bool, false, List, slice_index_or}

-- some values more are marked
pub record MarksMore (old new : List Bool) (added : ℕ → Bool) : Type 0 where
  pub each : (v : ℕ) → slice_index_or new v false ≡ (added v || slice_index_or old v false)
