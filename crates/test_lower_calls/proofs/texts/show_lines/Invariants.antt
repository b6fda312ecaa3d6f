use Rattle.std.proofs.Common.{◌-◌, length}
use Rattle.test_lower_calls.proofs.texts.show_lines.Given as goal

abbrev pub decreases-loop-line : goal.decreases-loop-line
decreases-loop-line g l = length l.left.text - l.left.at
