use Rattle.std.proofs.Common.{◌≡◌}
use Rattle.llvm_steps.specs.Rows.{bits_summed}
use Rattle.llvm_steps.proofs.steps.sum_of_bits.Given as goal

abbrev pub invariant-loop-at : goal.invariant-loop-at
invariant-loop-at l = l.steps.items ≡ bits_summed l.at
