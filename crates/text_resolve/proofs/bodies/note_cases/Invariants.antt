use Rattle.std.proofs.Common.{◌≡◌, ◌++◌, drop}
use Rattle.ir_lines.specs.Notes.{Notes}
use Rattle.ir_lines.specs.Sections.{cases_of}
use Rattle.ir_lines.specs.Views.{seen_lines}
use Rattle.text_resolve.proofs.CaseLines.{AreCases}
use Rattle.module_build.proofs.Founds.{FoundUpTo}
use Rattle.text_resolve.specs.Lost.{OtherWidthAt}
use Rattle.text_resolve.proofs.RowNotes.{numbers_of}
use Rattle.text_resolve.proofs.bodies.note_cases.Given as goal

abbrev pub invariant-loop-line : goal.invariant-loop-line
invariant-loop-line l = record {
  cases : AreCases (seen_lines l.behind) l.line-index;
  row : l.row.items ++ numbers_of (cases_of (seen_lines (drop l.line-index l.behind))) ≡ l.initial.row.items ++ numbers_of (cases_of (seen_lines l.behind));
  noted : Notes l.initial.first.found l.first.found (FoundUpTo (OtherWidthAt l.width.bits) (cases_of (seen_lines l.behind)) l.line-index);
}
