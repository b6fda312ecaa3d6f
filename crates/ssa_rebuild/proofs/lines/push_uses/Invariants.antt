use Rattle.std.proofs.Common.{◌≡◌, ◌++◌, take}
use Rattle.ssa_rebuild.specs.Rows.{uses_of}
use Rattle.ssa_rebuild.proofs.lines.push_uses.Given as goal

abbrev pub invariant-loop-operand : goal.invariant-loop-operand
invariant-loop-operand l = l.row.items ≡ l.initial.row.items ++ uses_of (take l.operand-index l.operands)
