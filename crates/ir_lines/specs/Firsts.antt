-- The first places of names, kept in a table and, where a part of it is full, in a tree.
use Rattle.std.specs.Prelude.{◌≡◌, ℕ, List, Option, Some, None, if◌then◌else◌}
use Rattle.std.specs.BTreeMap as tree
use Rattle.std.specs.Cmp.Lexicographic.{slice_cmp}
use Rattle.std.specs.Option.{option_or}
use Rattle.std.specs.Ordering.{nat_cmp}
use Rattle.std.specs.Str.{bytes_eq}
use Rattle.indexmap.specs.IndexMap as table
use Rattle.ir_lines.specs.Places.{place_in}
use Rattle.ir_lines.specs.declared.firsts.Firsts.{Firsts}

-- the place that is kept for a name
unfoldable pub first_at : Firsts → List ℕ → Option ℕ
first_at firsts name = option_or (table.get_by (λ key. bytes_eq name key.bytes.now) firsts.table) (tree.get_by (λ key. slice_cmp nat_cmp name key.now) firsts.tree)

-- for each name its first place in a list is kept
pub record IsFirsts (names : List (List ℕ)) (firsts : Firsts) : Type 0 where
  pub at : (name : List ℕ) → first_at firsts name ≡ place_in names name

-- a name has this place now, if it had none
pub record Adds (name : List ℕ) (place : ℕ) (old new : Firsts) : Type 0 where
  pub at : (other : List ℕ) → first_at new other ≡ option_or (first_at old other) (if bytes_eq other name then Some place else None)

-- each name has the place that it had
pub record Keeps (old new : Firsts) : Type 0 where
  pub at : (name : List ℕ) → first_at new name ≡ first_at old name
