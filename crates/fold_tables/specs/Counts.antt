-- How many values stay below each.
use Rattle.std.specs.Prelude.{◌≡◌, ℕ, ◌+◌, ◌≤◌, List, length, filter, Some, slice_get}
use Rattle.std.specs.List.{range_with_len}
use Rattle.folded_forms.specs.Folded.{Table, stays}

abbrev pub stay_count : Table → ℕ → ℕ
stay_count table value = length (filter (stays table) (range_with_len 0 value))

-- the counts of the values of a table, and last that of all
pub record AreCounts (table : Table) (counts : List ℕ) : Type 0 where
  pub long : length counts ≡ length table + 1
  pub each : (value : ℕ) → value ≤ length table → slice_get counts value ≡ Some (stay_count table value)
