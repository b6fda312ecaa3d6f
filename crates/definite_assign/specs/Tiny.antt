-- The functions of the tests.
use Rattle.std.specs.Prelude.{ℕ, [], ◌∷◌, Some, None}
use Rattle.ir_ast.specs.declared.types.Ty.TheVariants.{Void, Int}
use Rattle.ir_ast.specs.declared.ops.Op.TheVariants.{Add, Ret}
use Rattle.ir_ast.specs.declared.ops.Operand.TheVariants.{Value, Int as Number}
use Rattle.ir_ast.specs.Insts.{Instruction}
use Rattle.ir_ast.specs.Funcs.{Function}

-- `%1 = add i64 %V, 1`
abbrev pub sum_line : ℕ → Instruction
sum_line value = record {
  result = Some [];
  op = Add;
  ty = Int 64;
  operands = Value (record { 0 = value }) ∷ Number 1 ∷ [];
  labels = [];
  bundle = [];
}

-- `ret void`
abbrev pub return_line : Instruction
return_line = record { result = None; op = Ret; ty = Void; operands = []; labels = []; bundle = [] }

abbrev pub tiny : ℕ → Function
tiny value = record {
  name = [];
  answer = Void;
  args = record { name = []; ty = Int 64 } ∷ [];
  blocks = record { name = []; insts = sum_line value ∷ return_line ∷ [] } ∷ [];
}
