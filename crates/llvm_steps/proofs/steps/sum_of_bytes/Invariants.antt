use Rattle.std.proofs.Common.{◌≡◌}
use Rattle.llvm_steps.specs.Rows.{bytes_summed}
use Rattle.llvm_steps.proofs.steps.sum_of_bytes.Given as goal

abbrev pub invariant-loop-at : goal.invariant-loop-at
invariant-loop-at l = l.steps.items ≡ bytes_summed l.count l.at
