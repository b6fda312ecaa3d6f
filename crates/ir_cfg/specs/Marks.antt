-- A mark for each block, on those that are reached.
use Rattle.std.specs.Prelude.{◌≡◌, ℕ, Bool, List, length}
use Rattle.graph_search.specs.Paths.{Marked}
use Rattle.ir_cfg.specs.Graphs.{Graph}
use Rattle.ir_cfg.specs.Paths.{Reached}

-- the marked blocks are those that are reached
pub record MarksReached (graph : Graph) (marks : List Bool) : Type 0 where
  pub whole : length marks ≡ length graph
  pub sound : (block : ℕ) → Marked marks block → Reached graph block
  pub complete : (block : ℕ) → Reached graph block → Marked marks block
