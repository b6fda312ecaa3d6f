use Rattle.std.proofs.Common.{◌≡◌, ◌∙◌, ◌+◌, ◌<◌, suc, ◌++◌, ◌∷◌, [], ℕ, List, length, ap, sym, arith}
use Rattle.std.specs.Prelude.{map}
use Rattle.std.specs.List.{range_with_len}
use Rattle.std.proofs.lemmas.List.FromFn.{map-range_with_len_more}
use Rattle.base_tables.specs.Tables.{marks_before, inserted_in, number_in}
use Rattle.base_tables.proofs.TableLemmas.{before_yes, before_no}
use Rattle.base_tables.proofs.tables.numbered.Goals as goal
use Rattle.base_tables.proofs.tables.numbered.Goals.{then-mark, else-mark}

pub loop-mark-preserved : goal.loop-mark-preserved
loop-mark-preserved c =
    let marks = c.args.marks.now in
    let i = c.loop-mark.mark-index in
    let below : i < length marks = omega arith in
    let own : c.if-mark.next ≡ i + marks_before marks (i + 1) = elim c.if-mark.branch [
      | then-mark w ↦ let more = before_yes marks i _ below w.if-mark.true in omega (arith, w.next-is, c.loop-mark.invariant.next, more)
      | else-mark w ↦ let same = before_no marks i _ below w.if-mark.false in omega (arith, w.next-is, c.loop-mark.invariant.next, same)
    ] in
    let following : i + 1 ≡ suc i = omega arith in
    let number : i + marks_before marks (i + 1) ≡ number_in marks i = ap (λ n. i + marks_before marks n) following in
    record {
      next = omega (arith, own);
      few = elim c.if-mark.branch [
        | then-mark w ↦ omega (arith, w.next-is, c.loop-mark.invariant.few)
        | else-mark w ↦ omega (arith, w.next-is, c.loop-mark.invariant.few)
      ];
      inserted = c.push_reserved.ensures.items
          ∙ ap (λ (xs : List ℕ). xs ++ c.loop-mark.next ∷ []) c.loop-mark.invariant.inserted
          ∙ ap (λ (n : ℕ). map (inserted_in marks) (range_with_len 0 i) ++ n ∷ []) c.loop-mark.invariant.next
          ∙ sym (map-range_with_len_more (inserted_in marks) 0 i i (omega arith));
      numbers = c.push_reserved-in-loop-mark.ensures.items
          ∙ ap (λ (xs : List ℕ). xs ++ c.if-mark.next ∷ []) c.loop-mark.invariant.numbers
          ∙ ap (λ (n : ℕ). map (number_in marks) (range_with_len 0 i) ++ n ∷ []) (own ∙ number)
          ∙ sym (map-range_with_len_more (number_in marks) 0 i i (omega arith));
      len = omega (arith, c.push_reserved.ensures.len, c.loop-mark.invariant.len);
      room = omega (arith, c.push_reserved.ensures.capacity, c.loop-mark.invariant.room);
      numbers_len = omega (arith, c.push_reserved-in-loop-mark.ensures.len, c.loop-mark.invariant.numbers_len);
      numbers_room = omega (arith, c.push_reserved-in-loop-mark.ensures.capacity, c.loop-mark.invariant.numbers_room);
    }
