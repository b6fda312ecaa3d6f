-- The phi of a block that gives a value.
use Rattle.std.specs.Prelude.{◌≡◌, ℕ, ◌<◌, ◌==◌, ◌&&◌, nat_lt, List, Option, Some, None, MatchOption, if◌then◌else◌}
use Rattle.object_meaning.specs.Lines.{Line}
use Rattle.object_meaning.specs.Jumps.{phi_count}
use Rattle.pair_facts.specs.Lines.{line_in}
use Rattle.fact_tables.specs.declared.homes.Home.{Home}

-- only the phi at this place gives the value
pub record IsPhiOf (lines : List Line) (value at : ℕ) : Type 0 where
  pub inside : at < phi_count lines
  pub gives : (line_in lines at).to ≡ Some value
  pub only : (other : ℕ) → (line_in lines other).to ≡ Some value → other ≡ at

abbrev pub FindsPhi : List Line → ℕ → Option ℕ → Type 0
FindsPhi lines value found = MatchOption found ((at : ℕ) → at < phi_count lines → (line_in lines at).to ≡ Some value → ⊥) (IsPhiOf lines value)

abbrev pub place_below : Home → ℕ → ℕ → Option ℕ
place_below home block front = if home.block == block && nat_lt home.place front then Some home.place else None
