use Rattle.std.proofs.Common.{◌≡◌, ◌++◌, drop, map}
use Rattle.case_files.specs.Files.{shown_line}
use Rattle.case_files.specs.Rows.{rows_of}
use Rattle.case_files.proofs.rows.rows_in.Given as goal

abbrev pub invariant-loop-line : goal.invariant-loop-line
invariant-loop-line l = map shown_line l.rows.items ++ rows_of (map shown_line (drop l.line-index l.body)) ≡ rows_of (map shown_line l.body)
