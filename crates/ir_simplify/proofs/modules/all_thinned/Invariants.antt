use Rattle.std.proofs.Common.{◌≡◌, map, length}
use Rattle.std.specs.List.{All, AllZip}
use Rattle.ir_ast.specs.Funcs.{content_of, lines_of, zeros_of}
use Rattle.folded_forms.specs.Foldable.{IsReduced}
use Rattle.folded_forms.specs.Foldings.{IsThinning}
use Rattle.folded_source.specs.Statements.{IsUnder}
use Rattle.ir_simplify.proofs.modules.all_thinned.Given as goal

abbrev pub invariant-loop-func : goal.invariant-loop-func
invariant-loop-func l = record {
  functions : AllZip (IsUnder IsThinning) (map content_of l.yielded) (map content_of l.after.items);
  reduced : All IsReduced (map content_of l.after.items);
  lines : map lines_of l.after.items ≡ map zeros_of (map content_of l.after.items);
  count : length l.after.items ≡ length l.yielded;
}
