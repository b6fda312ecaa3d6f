use Rattle.std.proofs.Common.{◌≡◌, ◌++◌, drop}
use Rattle.ir_lines.specs.Notes.{Notes}
use Rattle.ir_lines.specs.Views.{seen_lines}
use Rattle.module_build.proofs.Founds.{FoundUpTo}
use Rattle.text_resolve.specs.Lost.{WidthsAt}
use Rattle.text_resolve.specs.Rows.{rows_of}
use Rattle.text_resolve.proofs.bodies.note_body.Given as goal

abbrev pub invariant-loop-i : goal.invariant-loop-i
invariant-loop-i l = record {
  made : l.cases ++ rows_of (seen_lines (drop l.i l.body)) ≡ rows_of (seen_lines l.body);
  noted : Notes l.initial.first.found l.first.found (FoundUpTo WidthsAt (seen_lines l.body) l.i);
}
