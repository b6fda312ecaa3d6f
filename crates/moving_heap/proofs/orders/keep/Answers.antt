use Rattle.std.proofs.Common.{◌≡◌, ℕ, ◌+◌, ◌++◌, ◌∷◌, [], List, true, false, not, drop, get_or, sym, ap, ◌∙◌, arith, length, append_assoc}
use Rattle.std.specs.Prelude.{filter, is_some}
use Rattle.std.specs.Result.{is_ok}
use Rattle.std.proofs.lemmas.List.{length-append}
use Rattle.moving_heap.specs.Orders.{stays_at, targets_in, target_of}
use Rattle.moving_heap.proofs.RowLemmas.{filter_keeps, filter_skips}
use Rattle.moving_heap.proofs.orders.keep.Goals as goal
use Rattle.moving_heap.proofs.orders.keep.Goals.{then-is_none, else-is_none}

pub loop-place-preserved : goal.loop-place-preserved
loop-place-preserved c =
    let from = c.loop-place.next.items in
    let here = get_or c.args.run.now c.loop-place.place-index 0 in
    let p = stays_at c.args.stands.now (targets_in c.args.targets.now) in
    let rest = filter (stays_at c.args.stands.now (targets_in c.args.targets.now)) (drop (c.loop-place.place-index + 1) c.args.run.now) in
    let object = ap is_some (c.target_of.ensures ∙ ap (target_of (targets_in c.args.targets.now)) c.at.ensures) in
    elim c.if-is_none.branch [
      | then-is_none w ↦ (
          let yes : stays_at c.args.stands.now (targets_in c.args.targets.now) here ≡ true = ap not (sym object ∙ c.is_none.ensures ∙ ap not w.if-is_none.true) in
          let step = filter_keeps (stays_at c.args.stands.now (targets_in c.args.targets.now)) c.args.run.now c.loop-place.place-index 0 c.loop-place-test.true yes in
          let all = ap length c.loop-place.invariant.stayers in
          let left = length-append from (filter (stays_at c.args.stands.now (targets_in c.args.targets.now)) (drop c.loop-place.place-index c.args.run.now)) in
          let right = length-append c.args.next.now.items (filter (stays_at c.args.stands.now (targets_in c.args.targets.now)) c.args.run.now) in
          let more = ap length step in
          let ok : is_ok w.push.result ≡ true = w.push.ensures.succeeds (omega (arith, c.requires, c.loop-place.invariant.capacity)) in
          let items : w.push.new.self.items ≡ from ++ here ∷ [] = rw ok at w.push.ensures.items in
          record {
            stayers = rw (w.next-is, items) (append_assoc from (here ∷ []) rest ∙ ap (λ (l : List ℕ). from ++ l) (sym step) ∙ c.loop-place.invariant.stayers);
            capacity = rw w.next-is (omega (arith, w.push.ensures.capacity, c.loop-place.invariant.capacity));
          })
      | else-is_none w ↦ (
          let no : stays_at c.args.stands.now (targets_in c.args.targets.now) here ≡ false = ap not (sym object ∙ c.is_none.ensures ∙ ap not w.if-is_none.false) in
          let step = filter_skips (stays_at c.args.stands.now (targets_in c.args.targets.now)) c.args.run.now c.loop-place.place-index 0 c.loop-place-test.true no in
          record {
            stayers = rw w.next-is (ap (λ (l : List ℕ). from ++ l) (sym step) ∙ c.loop-place.invariant.stayers);
            capacity = rw w.next-is c.loop-place.invariant.capacity;
          })
    ]
