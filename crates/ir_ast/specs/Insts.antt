-- What a contract sees of an `Inst`.
use Rattle.std.specs.Prelude.{ℕ, List, Option}
use Rattle.sp_ids.specs.declared.ids.BlockId.{BlockId}
use Rattle.ir_ast.specs.declared.types.Ty.{Ty}
use Rattle.ir_ast.specs.declared.ops.Op.{Op}
use Rattle.ir_ast.specs.declared.ops.Operand.{Operand}

-- the parts of an instruction, in the order of its line
pub record Instruction : Type 0 where
  pub result : Option (List ℕ)
  pub op : Op
  pub ty : Ty
  pub operands : List Operand
  pub labels : List BlockId
  pub bundle : List (Ty × Operand)
