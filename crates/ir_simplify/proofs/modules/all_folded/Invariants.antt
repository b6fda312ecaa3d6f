use Rattle.std.proofs.Common.{◌≡◌, map, length}
use Rattle.std.specs.List.{AllZip}
use Rattle.ir_ast.specs.Funcs.{content_of}
use Rattle.folded_forms.specs.Foldings.{IsFolding}
use Rattle.folded_source.specs.Statements.{IsUnder}
use Rattle.ir_simplify.proofs.modules.all_folded.Given as goal

abbrev pub invariant-loop-func : goal.invariant-loop-func
invariant-loop-func l = record {
  functions : AllZip (IsUnder IsFolding) (map content_of l.yielded) (map content_of l.after.items);
  count : length l.after.items ≡ length l.yielded;
}
