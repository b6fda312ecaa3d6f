-- Blocks under their only predecessors.
use Rattle.std.specs.Prelude.{◌≡◌, ℕ, ◌<◌, ◌==◌, if◌then◌else◌, List, [], ◌∷◌, ◌++◌, length, Option, Some, None, slice_get}
use Rattle.std.specs.List.{Contains}
use Rattle.std.specs.Option.{option_map_or}
use Rattle.std.specs.Global.{Vec}
use Rattle.version_walk.specs.declared.forest.Forest.{Forest}

abbrev pub list_at : {A : Type 0} → List (Vec A) → ℕ → List A
list_at lists place = option_map_or (λ list. list.items) (slice_get lists place) []

-- the block has this only predecessor
abbrev pub IsChild : List (Option ℕ) → ℕ → ℕ → Type 0
IsChild parents block parent = slice_get parents block ≡ Some (Some parent)

-- the block has none, or several
abbrev pub IsRoot : List (Option ℕ) → ℕ → Type 0
IsRoot parents block = slice_get parents block ≡ Some None

abbrev pub AreInside : List (Option ℕ) → Type 0
AreInside parents = (block parent : ℕ) → IsChild parents block parent → parent < length parents

-- the roots
pub record AreRoots (parents : List (Option ℕ)) (roots : List ℕ) : Type 0 where
  pub are : (block : ℕ) → Contains roots block → IsRoot parents block
  pub all : (block : ℕ) → IsRoot parents block → Contains roots block

-- the children of each block
pub record AreChildren (parents : List (Option ℕ)) (children : List (Vec ℕ)) : Type 0 where
  pub are : (block parent : ℕ) → Contains (list_at children parent) block → IsChild parents block parent
  pub all : (block parent : ℕ) → IsChild parents block parent → Contains (list_at children parent) block

pub record IsForest (parents : List (Option ℕ)) (forest : Forest) : Type 0 where
  pub roots : AreRoots parents forest.roots.items
  pub children : AreChildren parents forest.children.items

-- a block is put under its parent, or with the roots
pub data Adds (block : ℕ) (parent : Option ℕ) (old new : Forest) : Type 0 where
  as_root : parent ≡ None → new.roots.items ≡ old.roots.items ++ block ∷ [] → new.children ≡ old.children → Adds block parent old new
  as_child : (place : ℕ) → parent ≡ Some place → new.roots ≡ old.roots → length new.children.items ≡ length old.children.items
      → ((p : ℕ) → list_at new.children.items p ≡ list_at old.children.items p ++ (if place == p then block ∷ [] else [])) → Adds block parent old new
