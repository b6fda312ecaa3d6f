use Rattle.std.proofs.Common.{take}
use Rattle.std.specs.List.{All}
use Rattle.fold_tables.specs.Checks.{StaysIn}
use Rattle.fold_tables.proofs.thinning.operands_stay.Given as goal

abbrev pub invariant-loop-operand : goal.invariant-loop-operand
invariant-loop-operand l = All (StaysIn l.table) (take l.operand-index l.operands)
