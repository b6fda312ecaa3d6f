use Rattle.std.proofs.Common.{take}
use Rattle.std.specs.List.{All}
use Rattle.ir_verify.specs.Groups.{NamesToken}
use Rattle.ir_verify.proofs.groups.no_token.Given as goal

abbrev pub invariant-loop-operand : goal.invariant-loop-operand
invariant-loop-operand l = All (λ operand. ¬ NamesToken l.types operand) (take l.operand-index l.operands)
