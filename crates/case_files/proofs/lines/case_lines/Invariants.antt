use Rattle.std.proofs.Common.{◌≡◌, ◌++◌, ◌-◌, length, map}
use Rattle.sp_text.specs.Lines.{lines_of, lines_left}
use Rattle.case_files.specs.Files.{shown_line}
use Rattle.case_files.proofs.lines.case_lines.Given as goal

abbrev pub invariant-loop-line : goal.invariant-loop-line
invariant-loop-line l = map shown_line l.lines.items ++ lines_left l.left ≡ lines_of l.file

abbrev pub decreases-loop-line : goal.decreases-loop-line
decreases-loop-line l = length l.left.text - l.left.at
