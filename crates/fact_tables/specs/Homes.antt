-- Where the values of a function are defined.
use Rattle.std.specs.Prelude.{◌≡◌, ◌⊎◌, ℕ, ◌<◌, List, length, take, Option, Some, None, slice_index, slice_index_or}
use Rattle.ir_ast.specs.Funcs.{Function}
use Rattle.object_meaning.specs.Lines.{after_all, registers_of, insts_in}
use Rattle.pair_facts.specs.Lines.{lines_at, line_in}
use Rattle.fact_tables.specs.declared.homes.Home.{Home}

-- the line at this place of this block gives the value
abbrev pub GivesAt : Function → ℕ → ℕ → ℕ → Type 0
GivesAt func block place value = (line_in (lines_at func block) place).to ≡ Some value

abbrev pub home_at : ℕ → ℕ → Home
home_at block place = record { block = block; place = place }

abbrev pub home_in : List (Option Home) → ℕ → Option Home
home_in homes value = slice_index_or homes value None

-- the number of the next value before this place
abbrev pub register_at : Function → ℕ → ℕ → ℕ
register_at func block place = after_all (slice_index (registers_of func) block) (take place (insts_in func block))

-- the place comes before this one
abbrev pub IsBefore : ℕ → ℕ → ℕ → ℕ → Type 0
IsBefore block place until_block until = (block < until_block) ⊎ ((block ≡ until_block) × (place < until))

-- the homes are those of the values that are defined before a place
pub record KnowsHomes (func : Function) (until_block until : ℕ) (homes : List (Option Home)) : Type 0 where
  pub count : length homes ≡ register_at func until_block until
  pub sound : (value : ℕ) (home : Home) → home_in homes value ≡ Some home → GivesAt func home.block home.place value
  pub complete : (block place value : ℕ) → IsBefore block place until_block until → GivesAt func block place value
      → home_in homes value ≡ Some (home_at block place)
