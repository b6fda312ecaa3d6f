-- Graphs whose nodes are numbered from 0, as lists: for each node, where its edges lead.
use Rattle.std.specs.Prelude.{◌≡◌, ℕ, ◌<◌, Bool, true, false, List, [], ◌∷◌, length, Some, slice_get, slice_index_or}
use Rattle.std.specs.List.{Contains}

-- where the edges that leave a node lead: one entry per edge
abbrev pub targets_of : List (List ℕ) → ℕ → List ℕ
targets_of rows node = slice_index_or rows node []

-- an edge of one node leads to another: the one with this number among its edges
pub record Edge (rows : List (List ℕ)) (from to : ℕ) : Type 0 where
  pub number : ℕ
  pub leads : slice_get (targets_of rows from) number ≡ Some to

-- each start is a node, and each edge leads to one
pub record AreInside (rows : List (List ℕ)) (starts : List ℕ) : Type 0 where
  pub starts_inside : (node : ℕ) → Contains starts node → node < length rows
  pub edges_inside : (from to : ℕ) → Edge rows from to → to < length rows

-- the graph without the edges that leave the blocked nodes; a node past the marks isn't blocked
abbrev pub without : List Bool → List (List ℕ) → List (List ℕ)
without marks [] = []
without [] (row ∷ rows) = row ∷ rows
without (true ∷ marks) (row ∷ rows) = [] ∷ without marks rows
without (false ∷ marks) (row ∷ rows) = row ∷ without marks rows
