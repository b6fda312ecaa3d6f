use Rattle.std.proofs.Common.{length}
use Rattle.llvm_lines.proofs.values.first_global.Given as goal

abbrev pub decreases-loop-left : goal.decreases-loop-left
decreases-loop-left l = length l.left
