-- The tables of a function, and what is found in them.
use Rattle.std.specs.Prelude.{◌≡◌, ℕ, ◌<◌, ◌≤◌, ◌==◌, ◌&&◌, nat_lt, nat_le, max, List, length, Option, Some, None, MatchOption, slice_get, if◌then◌else◌}
use Rattle.ir_ast.specs.Funcs.{Function}
use Rattle.object_meaning.specs.Lines.{Line}
use Rattle.object_meaning.specs.Jumps.{phi_count}
use Rattle.pair_facts.specs.Lines.{lines_at, line_in}
use Rattle.pair_facts.specs.Segments.{start_at}
use Rattle.fact_tables.specs.declared.homes.Home.{Home}
use Rattle.fact_tables.specs.declared.notes.Notes.{Notes}
use Rattle.fact_tables.specs.declared.tables.Tables.{Tables}
use Rattle.fact_tables.specs.Homes.{KnowsHomes}
use Rattle.fact_tables.specs.Notes.{IsNotes}

-- the notes on these first blocks
pub record AreNotes (func : Function) (count : ℕ) (notes : List Notes) : Type 0 where
  pub whole : length notes ≡ count
  pub each : (block : ℕ) (one : Notes) → slice_get notes block ≡ Some one → IsNotes (lines_at func block) one

pub record AreTables (func : Function) (tables : Tables) : Type 0 where
  pub homes : KnowsHomes func (length func.blocks) 0 tables.homes.items
  pub notes : AreNotes func (length func.blocks) tables.notes.items

-- a place of a block, or its end
pub record IsPlace (func : Function) (block place : ℕ) : Type 0 where
  pub block_inside : block < length func.blocks
  pub place_inside : place ≤ length (lines_at func block)

-- the first place behind the block's phis and behind the last statepoint before a place
abbrev pub first_of : List Line → ℕ → ℕ
first_of lines place = max (start_at lines place) (phi_count lines)

-- only the line at `at` gives the value, and it stands before the place
pub record IsWithin (lines : List Line) (place value at : ℕ) : Type 0 where
  pub low : first_of lines place ≤ at
  pub high : at < place
  pub gives : (line_in lines at).to ≡ Some value
  pub only : (other : ℕ) → (line_in lines other).to ≡ Some value → other ≡ at

abbrev pub FindsWithin : List Line → ℕ → ℕ → Option ℕ → Type 0
FindsWithin lines place value found =
    MatchOption found ((at : ℕ) → first_of lines place ≤ at → at < place → (line_in lines at).to ≡ Some value → ⊥) (IsWithin lines place value)

abbrev pub place_between : Home → ℕ → ℕ → ℕ → Option ℕ
place_between home block first place =
    if (home.block == block && nat_le first home.place) && nat_lt home.place place then Some home.place else None
