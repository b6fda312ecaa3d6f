-- A block with a poll before its terminator.
use Rattle.std.specs.Prelude.{◌≡◌, ℕ, true, List, [], ◌∷◌, ◌++◌, Some, slice_get}
use Rattle.ir_ast.specs.Insts.{Instruction}
use Rattle.ir_ast.specs.Blocks.{BasicBlock}
use Rattle.ir_ast.specs.Funcs.{Function}
use Rattle.ir_ast.specs.Ops.{is_terminator}
use Rattle.base_forms.specs.Polls.{poll_call}

-- the block with this number ends with a poll and its terminator
pub record EndsWithPoll (func : Function) (number : ℕ) : Type 0 where
  pub block : BasicBlock
  pub in_function : slice_get func.blocks number ≡ Some block
  pub before : List Instruction
  pub last : Instruction
  pub whole : block.insts ≡ before ++ poll_call ∷ last ∷ []
  pub ends : is_terminator last.op ≡ true
