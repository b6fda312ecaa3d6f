use Rattle.std.proofs.Common.{◌≡◌, ◌++◌, drop, map}
use Rattle.case_files.specs.Files.{shown_line, text_of}
use Rattle.case_files.proofs.lines.push_text.Given as goal

abbrev pub invariant-loop-line : goal.invariant-loop-line
invariant-loop-line l = l.text.items ++ text_of (map shown_line (drop l.line-index l.lines)) ≡ l.initial.text.items ++ text_of (map shown_line l.lines)
