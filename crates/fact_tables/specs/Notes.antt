-- What the notes on a block say of its lines.
use Rattle.std.specs.Prelude.{◌≡◌, ℕ, zero, suc, List, [], ◌∷◌, ◌++◌, length, Option, None}
use Rattle.object_meaning.specs.Lines.{Line}
use Rattle.object_meaning.specs.Jumps.{phi_count}
use Rattle.pair_facts.specs.Lines.{head_at}
use Rattle.pair_facts.specs.Segments.{start_at}
use Rattle.fact_tables.specs.declared.notes.Notes.{Notes}
use Rattle.fact_tables.specs.Groups.{is_based}
use Rattle.fact_tables.specs.Phis.{ArePhis}

-- what a function gives at so many first places
abbrev pub told : {A : Type 0} → (ℕ → A) → ℕ → List A
told at zero = []
told at (suc count) = told at count ++ at count ∷ []

-- the statepoint whose group the line before is of
abbrev pub head_before : List Line → ℕ → Option ℕ
head_before lines zero = None
head_before lines (suc place) = head_at lines place

pub record IsNotes (lines : List Line) (notes : Notes) : Type 0 where
  pub front : notes.front ≡ phi_count lines
  pub starts : notes.starts.items ≡ told (start_at lines) (suc (length lines))
  pub heads : notes.heads.items ≡ told (head_at lines) (length lines)
  pub based : notes.based.items ≡ told (is_based lines) (length lines)
  pub phis : ArePhis lines (phi_count lines) notes.phis.items

-- the notes as far as the lines were read
pub record AreNoted (lines : List Line) (place start : ℕ) (head : Option ℕ) (starts : List ℕ) (heads : List (Option ℕ)) : Type 0 where
  pub start_is : start ≡ start_at lines place
  pub head_is : head ≡ head_before lines place
  pub starts_are : starts ≡ told (start_at lines) place
  pub heads_are : heads ≡ told (head_at lines) place
