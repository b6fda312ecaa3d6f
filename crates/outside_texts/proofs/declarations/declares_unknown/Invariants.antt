use Rattle.std.proofs.Common.{◌-◌, length}
use Rattle.std.specs.List.{Contains}
use Rattle.sp_text.specs.Lines.{NumberedLine, lines_of, lines_left}
use Rattle.outside_texts.proofs.declarations.declares_unknown.Given as goal

abbrev pub invariant-loop-line : goal.invariant-loop-line
invariant-loop-line l = (one : NumberedLine) → Contains (lines_left l.lines) one → Contains (lines_of l.text) one

abbrev pub decreases-loop-line : goal.decreases-loop-line
decreases-loop-line l = length l.lines.text - l.lines.at
