use Rattle.std.proofs.Common.{◌≡◌, ℕ, ◌<◌, length}
use Rattle.graph_search.specs.Paths.{Marked}
use Rattle.ir_cfg.specs.Graphs.{graph_of}
use Rattle.ir_cfg.specs.Paths.{Reached}
use Rattle.ir_cfg.proofs.reach.follow.Given as goal

abbrev pub invariant-loop-place : goal.invariant-loop-place
invariant-loop-place l = record {
  whole : length l.marks.items ≡ length l.blocks;
  sound : (block : ℕ) → Marked l.marks.items block → Reached (graph_of l.func.content) block;
  passed : (block : ℕ) → block < l.place → Reached (graph_of l.func.content) block;
}
