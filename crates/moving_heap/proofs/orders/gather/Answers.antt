use Rattle.std.proofs.Common.{◌≡◌, ℕ, ◌+◌, ◌++◌, ◌∷◌, [], List, true, false, drop, get_or, sym, ap, ◌∙◌, arith, length, append_assoc}
use Rattle.std.specs.Prelude.{filter, is_some}
use Rattle.std.specs.Result.{is_ok}
use Rattle.std.proofs.lemmas.List.{length-append}
use Rattle.moving_heap.specs.Orders.{leaves_at, targets_in, target_of}
use Rattle.moving_heap.proofs.RowLemmas.{filter_keeps, filter_skips}
use Rattle.moving_heap.proofs.orders.gather.Goals as goal
use Rattle.moving_heap.proofs.orders.gather.Goals.{then-is_some, else-is_some}

pub loop-place-preserved : goal.loop-place-preserved
loop-place-preserved c =
    let from = c.loop-place.leaving.items in
    let here = get_or c.args.run.now c.loop-place.place-index 0 in
    let p = leaves_at c.args.stands.now (targets_in c.args.targets.now) in
    let rest = filter (leaves_at c.args.stands.now (targets_in c.args.targets.now)) (drop (c.loop-place.place-index + 1) c.args.run.now) in
    let object = ap is_some (c.target_of.ensures ∙ ap (target_of (targets_in c.args.targets.now)) c.at.ensures) in
    elim c.if-is_some.branch [
      | then-is_some w ↦ (
          let yes : leaves_at c.args.stands.now (targets_in c.args.targets.now) here ≡ true = sym object ∙ sym c.is_some.ensures ∙ w.if-is_some.true in
          let step = filter_keeps (leaves_at c.args.stands.now (targets_in c.args.targets.now)) c.args.run.now c.loop-place.place-index 0 c.loop-place-test.true yes in
          let all = ap length c.loop-place.invariant.leavers in
          let left = length-append from (filter (leaves_at c.args.stands.now (targets_in c.args.targets.now)) (drop c.loop-place.place-index c.args.run.now)) in
          let right = length-append c.args.leaving.now.items (filter (leaves_at c.args.stands.now (targets_in c.args.targets.now)) c.args.run.now) in
          let more = ap length step in
          let ok : is_ok w.push.result ≡ true = w.push.ensures.succeeds (omega (arith, c.requires, c.loop-place.invariant.capacity)) in
          let items : w.push.new.self.items ≡ from ++ here ∷ [] = rw ok at w.push.ensures.items in
          record {
            leavers = rw (w.leaving-is, items) (append_assoc from (here ∷ []) rest ∙ ap (λ (l : List ℕ). from ++ l) (sym step) ∙ c.loop-place.invariant.leavers);
            capacity = rw w.leaving-is (omega (arith, w.push.ensures.capacity, c.loop-place.invariant.capacity));
          })
      | else-is_some w ↦ (
          let no : leaves_at c.args.stands.now (targets_in c.args.targets.now) here ≡ false = sym object ∙ sym c.is_some.ensures ∙ w.if-is_some.false in
          let step = filter_skips (leaves_at c.args.stands.now (targets_in c.args.targets.now)) c.args.run.now c.loop-place.place-index 0 c.loop-place-test.true no in
          record {
            leavers = rw w.leaving-is (ap (λ (l : List ℕ). from ++ l) (sym step) ∙ c.loop-place.invariant.leavers);
            capacity = rw w.leaving-is c.loop-place.invariant.capacity;
          })
    ]
