use Rattle.std.proofs.Common.{◌≡◌, ◌+◌, drop, map}
use Rattle.std.specs.Prelude.{is_none}
use Rattle.std.specs.List.{prefix_len}
use Rattle.case_files.specs.Files.{shown_line, head_of}
use Rattle.case_files.proofs.parts.body_of.Given as goal

abbrev pub invariant-loop-line : goal.invariant-loop-line
invariant-loop-line l = record {
  at : l.end ≡ l.line-index;
  before : prefix_len (λ line. is_none (head_of line.bytes)) (map shown_line l.lines) ≡ l.end + prefix_len (λ line. is_none (head_of line.bytes)) (map shown_line (drop l.end l.lines));
}
