use Rattle.std.proofs.Common.{◌∷◌, [], length, map, ap, arith}
use Rattle.std.proofs.lemmas.List.{map-append, length-append}
use Rattle.std.proofs.lemmas.List.Elements.{All-append, AllZip-push}
use Rattle.list_laws.proofs.Contents.{all_one}
use Rattle.ir_ast.specs.Funcs.{content_of}
use Rattle.ir_ast.proofs.FuncLaws.{lines_push}
use Rattle.folded_forms.specs.Foldable.{IsReduced}
use Rattle.folded_forms.specs.Foldings.{IsThinning}
use Rattle.folded_source.specs.Statements.{IsUnder}
use Rattle.ir_simplify.proofs.modules.all_thinned.Goals as goal

pub loop-func-preserved : goal.loop-func-preserved
loop-func-preserved c = record {
  functions = rw (c.in_ok-push.ensures.items, map-append content_of c.loop-func.yielded (c.in-Some.func ∷ []), map-append content_of c.loop-func.after.items (c.in_ok-under_thinning.field-0 ∷ []))
      (AllZip-push (IsUnder IsThinning) _ _ c.in-Some.func.content c.in_ok-under_thinning.field-0.content c.loop-func.invariant.functions c.in_ok-under_thinning.ensures.under);
  reduced = rw (c.in_ok-push.ensures.items, map-append content_of c.loop-func.after.items (c.in_ok-under_thinning.field-0 ∷ []))
      (All-append IsReduced (map content_of c.loop-func.after.items) (c.in_ok-under_thinning.field-0.content ∷ []) c.loop-func.invariant.reduced
      (all_one IsReduced c.in_ok-under_thinning.field-0.content c.in_ok-under_thinning.ensures.reduced));
  lines = rw c.in_ok-push.ensures.items (lines_push c.loop-func.after.items c.in_ok-under_thinning.field-0 c.loop-func.invariant.lines c.in_ok-under_thinning.ensures.lines);
  count = omega (
    arith,
    c.loop-func.invariant.count,
    ap length c.in_ok-push.ensures.items,
    length-append c.loop-func.yielded (c.in-Some.func ∷ []),
    length-append c.loop-func.after.items (c.in_ok-under_thinning.field-0 ∷ []),
  );
}
