use Rattle.std.proofs.Common.{take}
use Rattle.ir_lines.specs.Again.{FoundAfter, IsBadName, named_values, results_of}
use Rattle.ir_lines.specs.Notes.{Notes}
use Rattle.ir_lines.specs.Tables.{AddsValues}
use Rattle.ir_lines.specs.Views.{seen_lines}
use Rattle.ir_lines.proofs.scope.Local.add_results.Given as goal

abbrev pub invariant-loop-line : goal.invariant-loop-line
invariant-loop-line l = record {
  added : AddsValues l.initial.self l.self (results_of (seen_lines (take l.line-index l.lines)));
  noted : Notes l.initial.first.found l.first.found
      (FoundAfter (IsBadName l.form) l.initial.self.values (named_values (results_of (seen_lines (take l.line-index l.lines)))));
}
