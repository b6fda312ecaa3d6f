use Rattle.std.proofs.Common.{◌≡◌, ◌-◌, ◌++◌, length}
use Rattle.sp_text.specs.Lines.{lines_left}
use Rattle.llvm_features.specs.Features.{reasons_of, reasons_in}
use Rattle.llvm_lines.proofs.whole.lift_lines.Given as goal

abbrev pub invariant-loop-line : goal.invariant-loop-line
invariant-loop-line l = l.reasons.items ++ reasons_in (lines_left l.lines) ≡ reasons_of l.text

abbrev pub decreases-loop-line : goal.decreases-loop-line
decreases-loop-line l = length l.lines.text - l.lines.at
