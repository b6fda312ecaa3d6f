-- What the parts of a search say to one another: a mark for each node, and the marked nodes in the order in which they were found.
use Rattle.std.specs.Prelude.{◌≡◌, ℕ, ◌+◌, ◌⊎◌, Bool, true, false, not, List, [], ◌∷◌, ◌++◌, length, count_by, Some, slice_get, slice_set}
use Rattle.std.specs.List.{Contains}
use Rattle.graph_search.specs.Paths.{ReachedFrom, Marked}

-- finding a node does nothing where it has a mark
pub data Finds (node : ℕ) (marks marks' : List Bool) (found found' : List ℕ) : Type 0 where
  had_mark : Marked marks node → marks' ≡ marks → found' ≡ found → Finds node marks marks' found found'
  had_none : slice_get marks node ≡ Some false → marks' ≡ slice_set marks node true → found' ≡ found ++ node ∷ []
      → Finds node marks marks' found found'

-- the marks stand on the listed nodes alone, and each is listed once
pub record AreListed (marks : List Bool) (found : List ℕ) : Type 0 where
  pub marked : (place node : ℕ) → slice_get found place ≡ Some node → Marked marks node
  pub listed : (node : ℕ) → Marked marks node → Contains found node
  pub once : (i j node : ℕ) → slice_get found i ≡ Some node → slice_get found j ≡ Some node → i ≡ j

-- finding these nodes takes no mark away, and lists one node more for each mark more
pub record FindsAll (nodes : List ℕ) (marks marks' : List Bool) (found found' : List ℕ) : Type 0 where
  pub whole : length marks' ≡ length marks
  pub kept : (node : ℕ) → Marked marks node → Marked marks' node
  pub marked : (node : ℕ) → Contains nodes node → Marked marks' node
  pub source : (node : ℕ) → Marked marks' node → Marked marks node ⊎ Contains nodes node
  pub front : (place node : ℕ) → slice_get found place ≡ Some node → slice_get found' place ≡ Some node
  pub balance : count_by not marks' + length found' ≡ count_by not marks + length found
  pub same : AreListed marks found → AreListed marks' found'

-- a search so far: a path leads to each marked node
pub record IsSearch (rows : List (List ℕ)) (starts : List ℕ) (marks : List Bool) (found : List ℕ) : Type 0 where
  pub whole : length marks ≡ length rows
  pub starts_marked : (node : ℕ) → Contains starts node → Marked marks node
  pub are : AreListed marks found
  pub reached : (node : ℕ) → Marked marks node → ReachedFrom rows starts node
