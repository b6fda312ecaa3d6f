use Rattle.std.proofs.Common.{◌∷◌, [], length, ap, arith}
use Rattle.std.proofs.lemmas.List.{map-append, length-append}
use Rattle.std.proofs.lemmas.List.Elements.{AllZip-push}
use Rattle.ir_ast.specs.Funcs.{content_of}
use Rattle.folded_forms.specs.Foldings.{IsFolding}
use Rattle.folded_source.specs.Statements.{IsUnder}
use Rattle.ir_simplify.proofs.modules.all_folded.Goals as goal

pub loop-func-preserved : goal.loop-func-preserved
loop-func-preserved c = record {
  functions = rw (c.in_ok-push.ensures.items, map-append content_of c.loop-func.yielded (c.in-Some.func ∷ []), map-append content_of c.loop-func.after.items (c.in_ok-under_folding.field-0 ∷ []))
      (AllZip-push (IsUnder IsFolding) _ _ c.in-Some.func.content c.in_ok-under_folding.field-0.content c.loop-func.invariant.functions c.in_ok-under_folding.ensures);
  count = omega (
    arith,
    c.loop-func.invariant.count,
    ap length c.in_ok-push.ensures.items,
    length-append c.loop-func.yielded (c.in-Some.func ∷ []),
    length-append c.loop-func.after.items (c.in_ok-under_folding.field-0 ∷ []),
  );
}
