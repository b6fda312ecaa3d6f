-- Where a poll stands, and the law that no run stays long without one.
use Rattle.std.specs.Prelude.{◌≡◌, ℕ, ◌-◌, List, Some, length, slice_get}
use Rattle.std.specs.List.{Contains}
use Rattle.ir_ast.specs.Blocks.{BasicBlock}
use Rattle.ir_ast.specs.Funcs.{Function}
use Rattle.ir_cfg.specs.Graphs.{Graph, graph_of, Retreats}
use Rattle.ir_cfg.specs.Paths.{Reached, Way}

-- a reached block with an edge to the same or an earlier place
pub record PollsAtEnd (graph : Graph) (block : ℕ) : Type 0 where
  pub reached : Reached graph block
  pub retreats : Retreats graph block

-- the poll points, each by its block and by the instruction before which it stands
pub data PollPoint (func : Function) : ℕ → ℕ → Type 0 where
  -- the front of the entry block
  at_front : PollPoint func 0 0
  -- the place before the terminator
  at_end : (number : ℕ) (block : BasicBlock) → slice_get func.blocks number ≡ Some block
      → PollsAtEnd (graph_of func) number → PollPoint func number (length block.insts - 1)

-- every cycle of edges between reached blocks has a block with a poll before its terminator
abbrev pub CyclesPoll : Graph → Type 0
CyclesPoll graph = (block : ℕ) (blocks : List ℕ) → Reached graph block → Way graph block blocks block
    → (polling : ℕ) × Contains blocks polling × PollsAtEnd graph polling
