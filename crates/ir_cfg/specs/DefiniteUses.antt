-- Definite uses: every path to the use meets the definition before it (LLVM Language Reference,
-- "Functions": a definition dominates its uses).
use Rattle.std.specs.Prelude.{◌≡◌, ℕ, ◌+◌, ◌<◌, true, false, List, [], ◌∷◌, ◌++◌, Some, is_some, length, take, slice_get}
use Rattle.std.specs.List.{Contains}
use Rattle.sp_ids.specs.declared.ids.BlockId.{BlockId}
use Rattle.ir_ast.specs.declared.ops.Operand.{Operand}
use Rattle.ir_ast.specs.Insts.{Instruction}
use Rattle.ir_ast.specs.Blocks.{BasicBlock}
use Rattle.ir_ast.specs.Funcs.{Function, instructions_of}
use Rattle.ir_ast.specs.Operands.{values_used, value_in}
use Rattle.ir_ast.specs.Faults.PhiEdges.{is_phi}
use Rattle.ir_ast.specs.Faults.GroupShape.{number_at}
use Rattle.ir_cfg.specs.Graphs.{graph_of}
use Rattle.ir_cfg.specs.Paths.{Path}

-- the instruction stands at this place of this block
pub record Stands (func : Function) (number place : ℕ) (inst : Instruction) : Type 0 where
  pub block : BasicBlock
  pub in_function : slice_get func.blocks number ≡ Some block
  pub in_block : slice_get block.insts place ≡ Some inst

-- the place of an instruction among all of the function, in text order
abbrev pub text_place : Function → ℕ → ℕ → ℕ
text_place func number place = length (instructions_of (take number func.blocks)) + place

-- the instruction at this place of this block gives the value
pub record Defines (func : Function) (value number place : ℕ) : Type 0 where
  pub inst : Instruction
  pub stands : Stands func number place inst
  pub named : is_some inst.result ≡ true
  pub numbered : number_at func (text_place func number place) ≡ value

-- the instruction with this text place uses the value, before which it asks for the definition: at a
-- place of a block, which may be the block's end
pub data Uses (func : Function) : ℕ → ℕ → ℕ → ℕ → Type 0 where
  -- a line uses its values where it stands
  by_line : (number place value : ℕ) (inst : Instruction) → Stands func number place inst → is_phi inst.op ≡ false
      → Contains (values_used inst) value → Uses func (text_place func number place) value number place
  -- an entry of a phi is a use at the end of the block of its label
  by_entry : (number place entry value : ℕ) (phi : Instruction) (operand : Operand) (label : BlockId) (from : BasicBlock)
      → Stands func number place phi → is_phi phi.op ≡ true
      → slice_get phi.labels entry ≡ Some label → slice_get phi.operands entry ≡ Some operand
      → value_in operand ≡ Some value → slice_get func.blocks label.0 ≡ Some from
      → Uses func (text_place func number place) value label.0 (length from.insts)

-- a path to a place of its last block meets the definition of the value
pub data Meets (func : Function) (value : ℕ) (path : List ℕ) (place : ℕ) : Type 0 where
  in_arguments : value < length func.args → Meets func value path place
  in_earlier : (front back : List ℕ) (block next at : ℕ) → path ≡ front ++ block ∷ next ∷ back
      → Defines func value block at → Meets func value path place
  in_last : (front : List ℕ) (last at : ℕ) → path ≡ front ++ last ∷ [] → Defines func value last at
      → at < place → Meets func value path place

abbrev pub IsDefinite : Function → ℕ → ℕ → ℕ → Type 0
IsDefinite func value block place = (path : List ℕ) → Path (graph_of func) path block → Meets func value path place

-- every use of the function is definite: what has no fault of code 8
abbrev pub UsesAreDefinite : Function → Type 0
UsesAreDefinite func = (line value block place : ℕ) → Uses func line value block place → IsDefinite func value block place
