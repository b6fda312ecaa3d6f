-- The graph with its edges turned.
use Rattle.std.specs.Prelude.{◌≡◌, ℕ, ◌<◌, length}
use Rattle.std.specs.List.{All}
use Rattle.ir_cfg.specs.Graphs.{Graph, succs_of, preds_of}

-- each edge leads to a block of the graph
abbrev pub LeadsInside : Graph → Type 0
LeadsInside graph = All (λ row. All (λ label. label.0 < length graph) row) graph

-- the other graph has the edges of this one, turned
pub record IsTurned (graph other : Graph) : Type 0 where
  pub whole : length other ≡ length graph
  pub each : (block : ℕ) → block < length graph → succs_of other block ≡ preds_of graph block
