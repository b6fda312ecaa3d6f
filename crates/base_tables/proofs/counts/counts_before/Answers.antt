use Rattle.std.proofs.Common.{◌<◌, ◌+◌, ℕ, Bool, [], ◌∷◌, ◌++◌, length, map, take, arith, ap, sym, ◌∙◌}
use Rattle.std.specs.List.{count_by, range_with_len}
use Rattle.std.proofs.lemmas.List.FromFn.{map-range_with_len_more}
use Rattle.std.proofs.lemmas.List.Sums.{count_by_more_yes, count_by_more_no}
use Rattle.base_tables.proofs.counts.counts_before.Goals as goal
use Rattle.base_tables.proofs.counts.counts_before.Goals.{then-mark, else-mark}

pub loop-mark-preserved : goal.loop-mark-preserved
loop-mark-preserved c =
    let f : ℕ → ℕ = λ old. count_by (λ (mark : Bool). mark) (take old c.args.marks.now) in
    let below : c.loop-mark.mark-index < length c.args.marks.now = omega arith in
    record {
      counts = c.push_reserved.ensures.items
          ∙ ap (λ xs. xs ++ c.loop-mark.before ∷ []) c.loop-mark.invariant.counts
          ∙ ap (λ (n : ℕ). map f (range_with_len 0 c.loop-mark.mark-index) ++ n ∷ []) c.loop-mark.invariant.before
          ∙ sym (map-range_with_len_more f 0 c.loop-mark.mark-index c.loop-mark.mark-index (omega arith));
      before = elim c.if-mark.branch [
        | then-mark w ↦ w.before-is ∙ ap (λ (n : ℕ). n + 1) c.loop-mark.invariant.before
            ∙ sym (count_by_more_yes (λ (mark : Bool). mark) c.args.marks.now c.loop-mark.mark-index _ below w.if-mark.true)
        | else-mark w ↦ w.before-is ∙ c.loop-mark.invariant.before
            ∙ sym (count_by_more_no (λ (mark : Bool). mark) c.args.marks.now c.loop-mark.mark-index _ below w.if-mark.false)
      ];
      len = omega (arith, c.push_reserved.ensures.len, c.loop-mark.invariant.len);
      room = omega (arith, c.push_reserved.ensures.capacity, c.loop-mark.invariant.room);
    }
