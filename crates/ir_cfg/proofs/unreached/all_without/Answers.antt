use Rattle.std.proofs.Common.{◌∷◌, [], length, ap, arith}
use Rattle.std.proofs.lemmas.List.{map-append, length-append}
use Rattle.std.proofs.lemmas.List.Elements.{AllZip-push}
use Rattle.ir_ast.specs.Funcs.{content_of}
use Rattle.ir_cfg.specs.Unreached.{DropsUnreached}
use Rattle.ir_cfg.proofs.unreached.all_without.Goals as goal
use Rattle.ir_ast.proofs.FuncLaws.{lines_push}

pub loop-func-preserved : goal.loop-func-preserved
loop-func-preserved c = record {
  functions = rw (c.in_ok-push.ensures.items, map-append content_of c.loop-func.yielded (c.in-Some.func ∷ []), map-append content_of c.loop-func.kept.items (c.in_ok-without_unreached.field-0 ∷ []))
      (AllZip-push DropsUnreached _ _ c.in-Some.func.content c.in_ok-without_unreached.field-0.content c.loop-func.invariant.functions c.in_ok-without_unreached.ensures.drops);
  lines = rw c.in_ok-push.ensures.items (lines_push c.loop-func.kept.items c.in_ok-without_unreached.field-0 c.loop-func.invariant.lines c.in_ok-without_unreached.ensures.lines);
  count = omega (
    arith,
    c.loop-func.invariant.count,
    ap length c.in_ok-push.ensures.items,
    length-append c.loop-func.yielded (c.in-Some.func ∷ []),
    length-append c.loop-func.kept.items (c.in_ok-without_unreached.field-0 ∷ []),
  );
}
