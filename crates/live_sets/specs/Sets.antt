-- Sets of pointers, by their numbers.
use Rattle.std.specs.Prelude.{◌≡◌, ℕ, ◌<◌, ◌≤◌, ◌==◌, Bool, true, false, if◌then◌else◌, List, slice_index_or}
use Rattle.std.specs.List.{list_any}
use Rattle.std.specs.Ordering.{nat_cmp}
use Rattle.std.specs.BTreeSet.{BTreeSet, contains}
use Rattle.sp_ids.specs.declared.ids.ValueId.{ValueId}
use Rattle.ir_ast.specs.Lists.{has_mark}

abbrev pub is_in : BTreeSet ℕ → ℕ → Bool
is_in set v = contains nat_cmp set v

-- the marks are those of pointers
abbrev pub AreMarked : List Bool → BTreeSet ℕ → Type 0
AreMarked marks set = (v : ℕ) → is_in set v ≡ true → has_mark marks v ≡ true

-- each pointer is in or not by a function of its number and of what it was
pub record Changed (marks : List Bool) (old new : BTreeSet ℕ) (change : ℕ → Bool → Bool) : Type 0 where
  pub each : (v : ℕ) → has_mark marks v ≡ true → is_in new v ≡ change v (is_in old v)
  pub marked : AreMarked marks old → AreMarked marks new

-- the pointers among these values are in
pub record HasMembers (marks : List Bool) (values : List ValueId) (set : BTreeSet ℕ) : Type 0 where
  pub each : (v : ℕ) → has_mark marks v ≡ true → is_in set v ≡ list_any (λ value. value.0 == v) values
  pub marked : AreMarked marks set

-- one number is in now, and the others as before
abbrev pub Puts : ℕ → BTreeSet ℕ → BTreeSet ℕ → Type 0
Puts number old new = (v : ℕ) → is_in new v ≡ (if number == v then true else is_in old v)

-- one number isn't in now, and the others are as before
abbrev pub Takes : ℕ → BTreeSet ℕ → BTreeSet ℕ → Type 0
Takes number old new = (v : ℕ) → is_in new v ≡ (if number == v then false else is_in old v)

-- what bears the stamp is in, and no value bears a later one
pub record AreStamped (set : BTreeSet ℕ) (stamps : List ℕ) (stamp : ℕ) : Type 0 where
  pub above : 0 < stamp
  pub past : (v : ℕ) → slice_index_or stamps v 0 ≤ stamp
  pub inside : (v : ℕ) → slice_index_or stamps v 0 ≡ stamp → is_in set v ≡ true
