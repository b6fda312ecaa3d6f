use Rattle.std.proofs.Common.{◌≡◌, drop}
use Rattle.std.specs.List.{list_any, filter_map}
use Rattle.ir_ast.specs.Operands.{value_in}
use Rattle.body_tables.proofs.derivation.any_marked.Given as goal
use Rattle.ir_ast.specs.Lists.{has_mark}

abbrev pub invariant-loop-operand : goal.invariant-loop-operand
invariant-loop-operand l =
    list_any (has_mark l.marks) (filter_map value_in l.operands) ≡ list_any (has_mark l.marks) (filter_map value_in (drop l.operand-index l.operands))
