use Rattle.std.proofs.Common.{◌≡◌, take, true}
use Rattle.std.specs.List.{All}
use Rattle.definite_assign.specs.Straight.{is_below}
use Rattle.definite_assign.proofs.straight.all_below.Given as goal

abbrev pub invariant-loop-operand : goal.invariant-loop-operand
invariant-loop-operand l = All (λ operand. is_below l.limit operand ≡ true) (take l.operand-index l.operands)
