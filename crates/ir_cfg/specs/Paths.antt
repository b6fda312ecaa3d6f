-- Paths from the entry, and the blocks that are reached.
use Rattle.std.specs.Prelude.{ℕ, ◌<◌, List, [], ◌∷◌, ◌++◌, length}
use Rattle.ir_ast.specs.Funcs.{Function}
use Rattle.ir_cfg.specs.Graphs.{Graph, Edge, graph_of}

-- a path to a block: its blocks begin with the entry, and each is an edge target of the one before it
pub data Path (graph : Graph) : List ℕ → ℕ → Type 0 where
  at_entry : Path graph (0 ∷ []) 0
  along : (blocks : List ℕ) (from to : ℕ) → Path graph blocks from → Edge graph from to
      → Path graph (blocks ++ to ∷ []) to

abbrev pub Reached : Graph → ℕ → Type 0
Reached graph block = (blocks : List ℕ) × Path graph blocks block

-- a path leads to each block
abbrev pub IsReached : Function → Type 0
IsReached func = (block : ℕ) → block < length func.blocks → Reached (graph_of func) block

-- a way along one or more edges from a block to a block, and the blocks that these edges leave
pub data Way (graph : Graph) : ℕ → List ℕ → ℕ → Type 0 where
  one : (from to : ℕ) → Edge graph from to → Way graph from (from ∷ []) to
  more : (from by to : ℕ) (blocks : List ℕ) → Edge graph from by → Way graph by blocks to → Way graph from (from ∷ blocks) to
