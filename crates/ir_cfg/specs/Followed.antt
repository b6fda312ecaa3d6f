-- Blocks that are found in text order, each by an edge of an earlier one.
use Rattle.std.specs.Prelude.{◌≡◌, ℕ, ◌<◌, ◌⊎◌, Bool, List, length, Some, slice_get}
use Rattle.sp_ids.specs.declared.ids.BlockId.{BlockId}
use Rattle.graph_search.specs.Paths.{Marked}
use Rattle.ir_cfg.specs.Graphs.{Graph, block_at}
use Rattle.ir_cfg.specs.Paths.{Reached}

-- paths lead to all blocks
abbrev pub AreReached : Graph → Type 0
AreReached graph = (block : ℕ) → block < length graph → Reached graph block

-- no block has a mark but those that had one and those of these labels
pub record MarksMore (labels : List BlockId) (old new : List Bool) : Type 0 where
  pub whole : length new ≡ length old
  pub each : (block : ℕ) → Marked new block → Marked old block ⊎ ((number : ℕ) × (slice_get labels number ≡ Some (block_at block)))
