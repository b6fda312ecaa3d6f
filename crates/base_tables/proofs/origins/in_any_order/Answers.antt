use Rattle.std.proofs.Common.{◌∙◌, ◌++◌, ◌∷◌, [], ℕ, List, ap, sym, arith}
use Rattle.std.specs.Prelude.{map}
use Rattle.std.specs.List.{range_with_len}
use Rattle.std.proofs.lemmas.List.FromFn.{map-range_with_len_more}
use Rattle.ir_ast.specs.declared.ops.Operand.{Operand}
use Rattle.base_tables.specs.Kinds.{origin_in}
use Rattle.base_tables.specs.Seen.{seen_shape}
use Rattle.base_tables.proofs.origins.in_any_order.Goals as goal
use Rattle.ir_ast.specs.Operands.{named}

pub loop-value-preserved : goal.loop-value-preserved
loop-value-preserved c =
    let f : ℕ → Operand = λ value. origin_in (map seen_shape c.args.shapes.now) (named value) in
    record {
      found = c.settle.ensures;
      all = c.in_ok-push.ensures.items
          ∙ ap (λ (xs : List Operand). xs ++ c.origin_from-origin.result ∷ []) c.loop-value.invariant.all
          ∙ ap (λ (o : Operand). map f (range_with_len 0 c.loop-value.value) ++ o ∷ []) c.origin_from-origin.ensures
          ∙ sym (map-range_with_len_more f 0 c.loop-value.value c.loop-value.value (omega arith));
    }
