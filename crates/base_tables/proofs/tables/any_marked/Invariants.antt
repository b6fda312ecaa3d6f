use Rattle.std.proofs.Common.{◌≡◌, drop}
use Rattle.base_tables.specs.Kinds.{any_marked}
use Rattle.base_tables.proofs.tables.any_marked.Given as goal

abbrev pub invariant-loop-operand : goal.invariant-loop-operand
invariant-loop-operand l = any_marked l.marks l.operands ≡ any_marked l.marks (drop l.operand-index l.operands)
