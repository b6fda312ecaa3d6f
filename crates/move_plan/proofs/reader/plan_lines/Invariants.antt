use Rattle.std.proofs.Common.{◌-◌, length}
use Rattle.sp_text.specs.Lines.{lines_left}
use Rattle.move_plan.proofs.FaultLaws.{ReadSoFar}
use Rattle.move_plan.proofs.reader.plan_lines.Given as goal

abbrev pub invariant-loop-line : goal.invariant-loop-line
invariant-loop-line l = ReadSoFar l.text (lines_left l.lines) l.plan.items

abbrev pub decreases-loop-line : goal.decreases-loop-line
decreases-loop-line l = length l.lines.text - l.lines.at
