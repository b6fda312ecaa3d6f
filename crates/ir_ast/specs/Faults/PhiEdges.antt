-- Phis: what has no fault of code 7 (LLVM Language Reference, "'phi' Instruction").
use Rattle.std.specs.Prelude.{◌≡◌, ℕ, true, List, ◌∷◌, ◌++◌, Some, slice_get}
use Rattle.std.specs.List.{list_all}
pub use Rattle.ir_ast.specs.Ops.{is_phi}
use Rattle.ir_ast.specs.Insts.{Instruction}
use Rattle.ir_ast.specs.Blocks.{BasicBlock}
use Rattle.ir_ast.specs.Funcs.{Function}
use Rattle.ir_ast.specs.Edges.{count_of, edges}

-- a phi of the block with this number, after these instructions of the block
pub record PhiIsRight (func : Function) (block : ℕ) (before : List Instruction) (phi : Instruction) : Type 0 where
  -- only phis stand before it
  pub first : list_all (λ inst. is_phi inst.op) before ≡ true
  -- counted, it has one entry per edge into its block
  pub counted : (from : ℕ) → count_of from phi.labels ≡ edges func from block
  -- entries of one label are the same
  pub agree : (j k : ℕ) → slice_get phi.labels j ≡ slice_get phi.labels k
      → slice_get phi.operands j ≡ slice_get phi.operands k

abbrev pub PhisAreRight : Function → Type 0
PhisAreRight func = (number : ℕ) (block : BasicBlock) (before after : List Instruction) (phi : Instruction)
    → slice_get func.blocks number ≡ Some block → block.insts ≡ before ++ phi ∷ after
    → is_phi phi.op ≡ true → PhiIsRight func number before phi
