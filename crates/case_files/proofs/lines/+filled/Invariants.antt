use Rattle.std.proofs.Common.{length}
use Rattle.case_files.proofs.lines.+filled.Given as goal

abbrev pub decreases-filled : goal.decreases-filled
decreases-filled l = length l.lines.now
