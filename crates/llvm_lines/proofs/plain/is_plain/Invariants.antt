use Rattle.std.proofs.Common.{length}
use Rattle.llvm_lines.proofs.plain.is_plain.Given as goal

abbrev pub decreases-places : goal.decreases-places
decreases-places l = length l.left
