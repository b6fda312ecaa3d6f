use Rattle.std.proofs.Common.{length}
use Rattle.llvm_lines.proofs.accesses.without_bounds.Given as goal

abbrev pub decreases-loop-left : goal.decreases-loop-left
decreases-loop-left l = length l.left
