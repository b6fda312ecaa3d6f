use Rattle.std.proofs.Common.{◌-◌, length}
use Rattle.llvm_lines.proofs.zero_steps.Operands.enter.Given as goal

abbrev pub decreases-loop-at : goal.decreases-loop-at
decreases-loop-at l = length l.steps - l.at
