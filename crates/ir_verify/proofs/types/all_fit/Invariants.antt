use Rattle.std.proofs.Common.{take}
use Rattle.std.specs.List.{All}
use Rattle.ir_ast.specs.Faults.TypeClash.{Fits}
use Rattle.ir_verify.proofs.types.all_fit.Given as goal

abbrev pub invariant-loop-operand : goal.invariant-loop-operand
invariant-loop-operand l = All (λ operand. Fits l.values operand l.ty) (take l.operand-index l.operands)
