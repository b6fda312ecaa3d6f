use Rattle.std.proofs.Common.{◌≡◌, ◌++◌, List, length}
use Rattle.std.specs.Prelude.{map}
use Rattle.ir_lines.specs.Notes.{Notes}
use Rattle.ir_lines.specs.Sections.{Definition}
use Rattle.ir_lines.specs.Statements.{Line}
use Rattle.ir_lines.specs.Tables.{IsTop}
use Rattle.module_build.specs.Built.{known_with, lined_function}
use Rattle.text_resolve.specs.Built.{FunctionsLost}
use Rattle.text_resolve.specs.Parts.{parted}
use Rattle.text_resolve.specs.Rows.{rows_of}
use Rattle.text_resolve.proofs.functions.resolve_functions.Given as goal

abbrev pub invariant-loop-body : goal.invariant-loop-body
invariant-loop-body l = record {
  at : l.place ≡ length l.yielded;
  made : l.made.items ≡ l.initial.made.items ++ map (λ (func : Definition). lined_function (known_with l.top func) func) (parted l.outer l.yielded);
  rows : l.cases.items ≡ l.initial.cases.items ++ map (λ (func : Definition). rows_of func.body) (parted l.outer l.yielded);
  noted : (lines : List Line) → IsTop lines l.top → Notes l.initial.first.found l.first.found (FunctionsLost l.form lines (parted l.outer l.yielded));
}
