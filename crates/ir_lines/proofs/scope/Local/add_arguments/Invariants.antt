use Rattle.std.proofs.Common.{[], take}
use Rattle.std.specs.Prelude.{map}
use Rattle.line_parts.specs.Seen.{seen_argument}
use Rattle.ir_lines.specs.Again.{FoundAfter, IsBadName, named_values}
use Rattle.ir_lines.specs.Notes.{Notes}
use Rattle.ir_lines.specs.Sections.{arguments_named}
use Rattle.ir_lines.specs.Tables.{AddsValues}
use Rattle.ir_lines.proofs.scope.Local.add_arguments.Given as goal

abbrev pub invariant-loop-i : goal.invariant-loop-i
invariant-loop-i l = record {
  added : AddsValues l.initial.self l.self (take l.i (arguments_named l.line [] (map seen_argument l.arguments)));
  noted : Notes l.initial.first.found l.first.found
      (FoundAfter (IsBadName l.form) l.initial.self.values (named_values (take l.i (arguments_named l.line [] (map seen_argument l.arguments)))));
}
