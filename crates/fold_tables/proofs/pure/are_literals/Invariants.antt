use Rattle.std.proofs.Common.{◌≡◌, true, take}
use Rattle.std.specs.List.{list_all}
use Rattle.ir_ast.specs.Operands.{is_literal}
use Rattle.fold_tables.proofs.pure.are_literals.Given as goal

abbrev pub invariant-loop-operand : goal.invariant-loop-operand
invariant-loop-operand l = list_all is_literal (take l.operand-index l.operands) ≡ true
