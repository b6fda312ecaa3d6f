-- Nodes that paths lead to.
use Rattle.std.specs.Prelude.{◌≡◌, ℕ, Bool, true, List, length, Some, slice_get}
use Rattle.std.specs.List.{Contains}
use Rattle.graph_search.specs.Edges.{Edge}

-- a path along edges leads from one of the starts to the node. These nodes are the least set that has the starts and
-- with a node the nodes where its edges lead.
pub data ReachedFrom (rows : List (List ℕ)) (starts : List ℕ) : ℕ → Type 0 where
  at_start : (node : ℕ) → Contains starts node → ReachedFrom rows starts node
  along : (from to : ℕ) → ReachedFrom rows starts from → Edge rows from to → ReachedFrom rows starts to

-- the node has a mark
abbrev pub Marked : List Bool → ℕ → Type 0
Marked marks node = slice_get marks node ≡ Some true

-- there is a mark for each node, and the marked nodes are those that paths lead to
pub record MarksReached (rows : List (List ℕ)) (starts : List ℕ) (marks : List Bool) : Type 0 where
  pub whole : length marks ≡ length rows
  pub sound : (node : ℕ) → Marked marks node → ReachedFrom rows starts node
  pub complete : (node : ℕ) → ReachedFrom rows starts node → Marked marks node
