use Rattle.std.proofs.Common.{◌-◌, length}
use Rattle.sp_text.specs.Lines.{lines_left}
use Rattle.move_plan.proofs.InputLaws.{HeldSoFar}
use Rattle.move_plan.proofs.inputs.read_input.Given as goal

abbrev pub invariant-loop-line : goal.invariant-loop-line
invariant-loop-line l = HeldSoFar l.text (lines_left l.lines) l.numbers.items

abbrev pub decreases-loop-line : goal.decreases-loop-line
decreases-loop-line l = length l.lines.text - l.lines.at
