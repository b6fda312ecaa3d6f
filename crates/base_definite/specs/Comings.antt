-- The places that paths from the entry come to, line by line.
use Rattle.std.specs.Prelude.{◌≡◌, ℕ, suc, Some, length, slice_get}
use Rattle.ir_ast.specs.Insts.{Instruction}
use Rattle.ir_ast.specs.Blocks.{BasicBlock}
use Rattle.ir_ast.specs.Funcs.{Function}
use Rattle.ir_cfg.specs.Graphs.{Edge, graph_of}
use Rattle.ir_cfg.specs.DefiniteUses.{Defines, Stands}

-- a path comes to this place of this block
pub data Comes (func : Function) : ℕ → ℕ → Type 0 where
  to_entry : Comes func 0 0
  past_line : (block place : ℕ) (inst : Instruction) → Comes func block place → Stands func block place inst → Comes func block (suc place)
  over_edge : (from to : ℕ) (block : BasicBlock) → Comes func from (length block.insts) → slice_get func.blocks from ≡ Some block
      → Edge (graph_of func) from to → Comes func to 0

-- a path comes to this place on which a value was defined, and the other one not since
pub data DefinedSince (func : Function) (value other : ℕ) : ℕ → ℕ → Type 0 where
  just_now : (block place : ℕ) → Comes func block place → Defines func value block place → ¬ Defines func other block place
      → DefinedSince func value other block (suc place)
  past_line : (block place : ℕ) (inst : Instruction) → DefinedSince func value other block place → Stands func block place inst
      → ¬ Defines func other block place → DefinedSince func value other block (suc place)
  over_edge : (from to : ℕ) (block : BasicBlock) → DefinedSince func value other from (length block.insts) → slice_get func.blocks from ≡ Some block
      → Edge (graph_of func) from to → DefinedSince func value other to 0
