-- The nodes that paths lead to, as a list.
use Rattle.std.specs.Prelude.{◌≡◌, ℕ, Bool, List, Some, slice_get}
use Rattle.std.specs.List.{Contains}
use Rattle.graph_search.specs.Paths.{Marked, MarksReached}

-- the list has the nodes that paths lead to from one of the starts, each once
pub record ListsReached (rows : List (List ℕ)) (starts found : List ℕ) : Type 0 where
  pub marks : List Bool
  pub reached : MarksReached rows starts marks
  pub marked : (node : ℕ) → Contains found node → Marked marks node
  pub listed : (node : ℕ) → Marked marks node → Contains found node
  pub once : (i j node : ℕ) → slice_get found i ≡ Some node → slice_get found j ≡ Some node → i ≡ j
