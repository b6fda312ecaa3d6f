use Rattle.std.proofs.Common.{◌≡◌, ◌≤◌, ◌+◌, length, drop}
use Rattle.ssa_rebuild.specs.Rows.{use_numbers}
use Rattle.thin_phis.proofs.entries.value_count.Given as goal

abbrev pub invariant-loop-operand : goal.invariant-loop-operand
invariant-loop-operand l = record {
  counted : length (use_numbers (λ v. 0) l.operands) ≡ l.count + length (use_numbers (λ v. 0) (drop l.operand-index l.operands));
  few : l.count ≤ l.operand-index;
}
