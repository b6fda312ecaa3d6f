-- A search: a mark for each node, and the marked nodes in the order in which they were found.
use Rattle.std.specs.Prelude.{◌≡◌, ℕ, ◌+◌, ◌⊎◌, true, false, not, List, [], ◌∷◌, ◌++◌, length, count_by, Some, slice_get, slice_set}
use Rattle.std.specs.List.{Contains}
use Rattle.graph_search.specs.declared.search.Search.{Search}
use Rattle.graph_search.specs.Paths.{ReachedFrom, Marked}

-- finding a node does nothing where it has a mark
pub data Finds (node : ℕ) (old new : Search) : Type 0 where
  had_mark : Marked old.marks.items node → new ≡ old → Finds node old new
  had_none : slice_get old.marks.items node ≡ Some false → new.marks.items ≡ slice_set old.marks.items node true
      → new.found.items ≡ old.found.items ++ node ∷ [] → Finds node old new

-- finding these nodes takes no mark away, and lists one node more for each mark more
pub record FindsAll (nodes : List ℕ) (old new : Search) : Type 0 where
  pub whole : length new.marks.items ≡ length old.marks.items
  pub kept : (node : ℕ) → Marked old.marks.items node → Marked new.marks.items node
  pub marked : (node : ℕ) → Contains nodes node → Marked new.marks.items node
  pub source : (node : ℕ) → Marked new.marks.items node → Marked old.marks.items node ⊎ Contains nodes node
  pub front : (place node : ℕ) → slice_get old.found.items place ≡ Some node → slice_get new.found.items place ≡ Some node
  pub back : (place node : ℕ) → slice_get new.found.items place ≡ Some node
      → (slice_get old.found.items place ≡ Some node) ⊎ Marked new.marks.items node
  pub listed : (node : ℕ) → Marked new.marks.items node → Marked old.marks.items node ⊎ Contains new.found.items node
  pub balance : count_by not new.marks.items + length new.found.items ≡ count_by not old.marks.items + length old.found.items

-- the marked nodes are the listed ones, and a path leads to each
pub record IsSearch (rows : List (List ℕ)) (starts : List ℕ) (search : Search) : Type 0 where
  pub whole : length search.marks.items ≡ length rows
  pub starts_marked : (node : ℕ) → Contains starts node → Marked search.marks.items node
  pub marked : (place node : ℕ) → slice_get search.found.items place ≡ Some node → Marked search.marks.items node
  pub listed : (node : ℕ) → Marked search.marks.items node → Contains search.found.items node
  pub reached : (node : ℕ) → Marked search.marks.items node → ReachedFrom rows starts node
