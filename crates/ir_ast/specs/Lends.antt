-- What an instruction ends as, where a `&mut` to its operands is returned.
use Rattle.std.specs.Prelude.{List, length}
use Rattle.std.specs.List.{refill}
use Rattle.std.specs.Borrow.{Lends, MutBor, Fml, Array}
use Rattle.ir_ast.specs.declared.ops.Operand.{Operand}
use Rattle.ir_ast.specs.Insts.{Instruction}
use Rattle.ir_ast.specs.contracts.insts.Inst.{the_row}
use Rattle.ir_ast.specs.contracts.ops.Operand as operands

-- the instruction over these operands, as many as it has
abbrev pub with_operands : Instruction → List Operand → Instruction
with_operands inst operands = record inst { operands = refill (length inst.operands) inst.operands operands }

-- once the borrow ends, the operands are those that it shows last
abbrev pub lends_operands : MutBor Instruction → MutBor (List Operand) → Fml
lends_operands inst r = Lends the_row (Array operands.the_row 0) inst r (with_operands inst.now)
