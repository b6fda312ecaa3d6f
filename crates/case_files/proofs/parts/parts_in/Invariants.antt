use Rattle.std.proofs.Common.{◌≡◌, ◌++◌, length, map}
use Rattle.case_files.specs.Files.{shown_line, parts_of}
use Rattle.case_files.specs.Shown.{shown_part}
use Rattle.case_files.proofs.parts.parts_in.Given as goal

abbrev pub invariant-loop-left : goal.invariant-loop-left
invariant-loop-left l = map shown_part l.parts.items ++ parts_of (map shown_line l.left) ≡ parts_of (map shown_line l.lines)

abbrev pub decreases-loop-left : goal.decreases-loop-left
decreases-loop-left l = length l.left
