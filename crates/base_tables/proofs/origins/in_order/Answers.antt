use Rattle.std.proofs.Common.{◌∙◌, ◌++◌, ◌∷◌, [], ℕ, List, ap, sym, arith}
use Rattle.std.specs.Prelude.{map}
use Rattle.std.specs.List.{range_with_len}
use Rattle.std.proofs.lemmas.List.FromFn.{map-range_with_len_more}
use Rattle.ir_ast.specs.declared.ops.Operand.{Operand}
use Rattle.base_tables.specs.Kinds.{origin_in}
use Rattle.base_tables.specs.Seen.{seen_shape}
use Rattle.base_tables.proofs.origins.in_order.Goals as goal
use Rattle.ir_ast.specs.Operands.{named}

pub loop-value-preserved : goal.loop-value-preserved
loop-value-preserved c =
    let f : ℕ → Operand = λ value. origin_in (map seen_shape c.args.shapes.now) (named value) in
    record {
      all = c.push_reserved.ensures.items
          ∙ ap (λ (xs : List Operand). xs ++ c.in-Some.origin ∷ []) c.loop-value.invariant.all
          ∙ ap (λ (o : Operand). map f (range_with_len 0 c.loop-value.value) ++ o ∷ []) c.in-Some.ensures
          ∙ sym (map-range_with_len_more f 0 c.loop-value.value c.loop-value.value (omega arith));
      len = omega (arith, c.push_reserved.ensures.len, c.loop-value.invariant.len);
      room = omega (arith, c.push_reserved.ensures.capacity, c.loop-value.invariant.room);
    }
