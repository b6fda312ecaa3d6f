use Rattle.std.proofs.Common.{◌∙◌, ◌++◌, ◌∷◌, [], ℕ, List, sym, ap, arith}
use Rattle.base_tables.proofs.TableLemmas.{range_more}
use Rattle.base_tables.proofs.tables.rising.Goals as goal

pub loop-number-preserved : goal.loop-number-preserved
loop-number-preserved c = record {
  numbers = c.push_reserved.ensures.items ∙ ap (λ (xs : List ℕ). xs ++ c.loop-number.number ∷ []) c.loop-number.invariant.numbers ∙ sym (range_more c.loop-number.number);
  len = omega (arith, c.push_reserved.ensures.len, c.loop-number.invariant.len);
  room = omega (arith, c.push_reserved.ensures.capacity, c.loop-number.invariant.room);
}
