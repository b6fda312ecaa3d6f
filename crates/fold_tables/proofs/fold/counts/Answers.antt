use Rattle.std.proofs.Common.{◌≡◌, ◌∙◌, ℕ, ◌++◌, Bool, List, [], ◌∷◌, length, if◌then◌else◌, sym, ap, arith, slice_get}
use Rattle.std.proofs.lemmas.List.{length-append}
use Rattle.fold_tables.specs.Counts.{stay_count}
use Rattle.fold_tables.proofs.CountLaws.{count_next, more_counted}
use Rattle.fold_tables.proofs.fold.counts.Goals as goal
use Rattle.fold_tables.proofs.fold.counts.Goals.{then-stays, else-stays}

pub loop-value-preserved : goal.loop-value-preserved
loop-value-preserved c =
    let table = c.args.table.now in
    let i = c.loop-value.value in
    let counts = c.loop-value.counts.items in
    let next = count_next table i in
    let pushed = c.in_ok-push.ensures.items ∙ ap (λ (n : ℕ). counts ++ n ∷ []) c.loop-value.invariant.count in
    record {
      count = elim c.if-stays.branch [
        | then-stays w ↦ omega (arith, w.count-is, next, c.loop-value.invariant.count, ap (λ (b : Bool). let n : ℕ = if b then 1 else 0 in n) (sym c.stays.ensures ∙ w.if-stays.true))
        | else-stays w ↦ omega (arith, w.count-is, next, c.loop-value.invariant.count, ap (λ (b : Bool). let n : ℕ = if b then 1 else 0 in n) (sym c.stays.ensures ∙ w.if-stays.false))
      ];
      few = elim c.if-stays.branch [
        | then-stays w ↦ omega (arith, w.count-is, c.loop-value.invariant.few)
        | else-stays w ↦ omega (arith, w.count-is, c.loop-value.invariant.few)
      ];
      long = omega (arith, ap length pushed, length-append counts (stay_count table i ∷ []), c.loop-value.invariant.long);
      each = λ value below. ap (λ (xs : List ℕ). slice_get xs value) pushed ∙ more_counted table counts i c.loop-value.invariant.long c.loop-value.invariant.each value below;
    }

pub returns : goal.returns
returns c =
    let table = c.args.table.now in
    let i = c.loop-value.value in
    let counts = c.loop-value.counts.items in
    let whole : i ≡ length table = omega (arith, c.loop-value.auto.value-end, c.loop-value-test.false) in
    let pushed = c.in_ok-push-2.ensures.items ∙ ap (λ (n : ℕ). counts ++ n ∷ []) c.loop-value.invariant.count in
    record {
      long = omega (arith, ap length pushed, length-append counts (stay_count table i ∷ []), c.loop-value.invariant.long, whole);
      each = λ value within. ap (λ (xs : List ℕ). slice_get xs value) pushed ∙ more_counted table counts i c.loop-value.invariant.long c.loop-value.invariant.each value (omega (arith, whole, within));
    }
