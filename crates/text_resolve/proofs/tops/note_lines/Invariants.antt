use Rattle.std.proofs.Common.{take}
use Rattle.ir_lines.specs.Notes.{Notes}
use Rattle.text_resolve.specs.TopFaults.{OuterFaults}
use Rattle.ir_lines.specs.Views.{seen_lines}
use Rattle.text_resolve.proofs.tops.note_lines.Given as goal

abbrev pub invariant-loop-line : goal.invariant-loop-line
invariant-loop-line l =
    Notes l.initial.first.found l.first.found (OuterFaults l.form l.top.functions l.top.layouts (seen_lines (take l.line-index l.lines)))
