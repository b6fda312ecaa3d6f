use Rattle.std.proofs.Common.{◌≡◌, ◌++◌, take, drop}
use Rattle.ssa_rebuild.specs.Written.{filled, left}
use Rattle.ssa_rebuild.proofs.filled.fill.Given as goal

abbrev pub invariant-loop-operand : goal.invariant-loop-operand
invariant-loop-operand l = record {
  value : take l.operand-index l.operands ++ filled l.numbers (drop l.operand-index l.operands) ≡ filled l.initial.numbers l.initial.operands;
  rest : left l.numbers (drop l.operand-index l.operands) ≡ left l.initial.numbers l.initial.operands;
}
