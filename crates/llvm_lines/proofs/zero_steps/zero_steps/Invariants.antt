use Rattle.std.proofs.Common.{◌-◌, length}
use Rattle.llvm_lines.proofs.zero_steps.zero_steps.Given as goal

abbrev pub decreases-loop-line : goal.decreases-loop-line
decreases-loop-line l = length l.lines.text - l.lines.at
