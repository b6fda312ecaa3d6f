use Rattle.std.proofs.Common.{◌≡◌, ℕ, ◌<◌, ◌≤◌, ◌++◌, ◌∷◌, [], true, false, not, get_or, refl, sym, ap, ◌∙◌, arith, length}
use Rattle.std.specs.Prelude.{is_some}
use Rattle.std.specs.Result.{is_ok}
use Rattle.moving_heap.specs.declared.stands.Stand.{Stand}
use Rattle.moving_heap.specs.Orders.{target_of, targets_in, stand_at, row, then_at, then_row}
use Rattle.moving_heap.proofs.OrderLemmas.{merged_none, merged_leaving, merged_stand, merged_skip, merged_all, room_for_leaving, room_for_stand}
use Rattle.moving_heap.proofs.RowLemmas.{row_get, row-length, then_get, then-length, then_push, then_stays}
use Rattle.moving_heap.proofs.orders.merge.Goals as goal
use Rattle.moving_heap.proofs.orders.merge.Goals.{else-taken-leaving-via-then-taken-leaving+else-then_at-stand, else-taken-leaving-via-else-taken-leaving, then-is_none, else-is_none}

pub loop-place-init : goal.loop-place-init
loop-place-init c = record {
  merged = rw c.requires.empty (merged_none (targets_in c.args.targets.now) (row c.args.stands.now c.args.run.now) (then_row c.args.stands.now (targets_in c.args.targets.now) c.args.leaving.now) [] refl);
  within = omega arith;
  capacity = omega arith;
}

pub loop-place-preserved-then-then_at-stand : goal.loop-place-preserved-then-then_at-stand
loop-place-preserved-then-then_at-stand c =
    let stands = c.args.stands.now in
    let targets = targets_in c.args.targets.now in
    let run = row c.args.stands.now c.args.run.now in
    let leaving = then_row c.args.stands.now (targets_in c.args.targets.now) c.args.leaving.now in
    let next = then_row c.args.stands.now (targets_in c.args.targets.now) c.loop-place.next.items in
    let p = get_or c.args.leaving.now c.loop-place.taken 0 in
    let leaves = then_at c.args.stands.now (targets_in c.args.targets.now) p in
    let size = then-length stands targets c.args.leaving.now in
    let run_size = row-length stands c.args.run.now in
    let made = then-length stands targets c.loop-place.next.items in
    let is = sym (then_get stands targets c.args.leaving.now c.loop-place.taken leaves c.if-taken-leaving.true) in
    let within : c.loop-place.taken < length leaving = omega (arith, c.if-taken-leaving.true) in
    let room = room_for_leaving targets run leaving next c.loop-place.place c.loop-place.taken c.loop-place.invariant.merged within in
    let ok : is_ok c.push.result ≡ true = c.push.ensures.succeeds (omega (arith, c.requires.room, c.loop-place.invariant.capacity)) in
    let items : c.push.new.self.items ≡ c.loop-place.next.items ++ get_or c.args.leaving.now c.loop-place.taken 0 ∷ [] = rw ok at c.push.ensures.items in
    record {
      merged = rw (items, then_push stands targets c.loop-place.next.items p) (merged_leaving targets run leaving next c.loop-place.place c.loop-place.taken leaves c.loop-place.invariant.merged c.requires.leaving_sorted within is
          (λ k d le lk.
          let up = c.requires.sorted c.loop-place.place k d le lk in
          let same = ap (λ (s : Stand). s.address) (row_get stands c.args.run.now c.loop-place.place d c.loop-place-test.true ∙ sym c.at-stand.ensures) in
          let here = ap (λ (s : Stand). s.address) c.then_at.ensures in omega (arith, c.if-then_at-stand.true)));
      within = omega (arith, c.if-taken-leaving.true);
      capacity = omega (arith, c.push.ensures.capacity, c.loop-place.invariant.capacity);
    }

pub loop-place-preserved : goal.loop-place-preserved
loop-place-preserved c =
    let stands = c.args.stands.now in
    let targets = targets_in c.args.targets.now in
    let run = row c.args.stands.now c.args.run.now in
    let leaving = then_row c.args.stands.now (targets_in c.args.targets.now) c.args.leaving.now in
    let next = then_row c.args.stands.now (targets_in c.args.targets.now) c.loop-place.next.items in
    let p = get_or c.args.run.now c.loop-place.place 0 in
    let stays = stand_at c.args.stands.now (get_or c.args.run.now c.loop-place.place 0) in
    let size = then-length stands targets c.args.leaving.now in
    let run_size = row-length stands c.args.run.now in
    let made = then-length stands targets c.loop-place.next.items in
    let here : c.loop-place.place < length run = omega (arith, c.loop-place-test.true) in
    let is = sym (row_get stands c.args.run.now c.loop-place.place stays c.loop-place-test.true) in
    let object = ap is_some (c.target_of.ensures ∙ ap (target_of (targets_in c.args.targets.now)) c.at-stand.ensures) in
    let lower : (k : ℕ) (d : Stand) → c.loop-place.taken ≤ k → k < length (then_row c.args.stands.now (targets_in c.args.targets.now) c.args.leaving.now)
    → (stand_at c.args.stands.now (get_or c.args.run.now c.loop-place.place 0)).address ≤ (get_or (then_row c.args.stands.now (targets_in c.args.targets.now) c.args.leaving.now) k d).address =
    λ k d le lk. (elim c.else-taken-leaving.branch [
      | else-taken-leaving-via-then-taken-leaving+else-then_at-stand w ↦ (
          let up = c.requires.leaving_sorted c.loop-place.taken k d le lk in
          let same = ap (λ (s : Stand). s.address) (then_get stands targets c.args.leaving.now c.loop-place.taken d w.if-taken-leaving.true ∙ sym w.then_at.ensures) in
          let at = ap (λ (s : Stand). s.address) c.at-stand.ensures in omega (arith, w.if-then_at-stand.false))
      | else-taken-leaving-via-else-taken-leaving w ↦ (let no = w.if-taken-leaving.false in absurd (omega arith))
    ]) in
    elim c.if-is_none.branch [
      | then-is_none w ↦ (
          let none : is_some (target_of (targets_in c.args.targets.now) (stand_at c.args.stands.now (get_or c.args.run.now c.loop-place.place 0))) ≡ false = sym object ∙ c.is_none.ensures ∙ ap not w.if-is_none.true in
          let room = room_for_stand targets run leaving next c.loop-place.place c.loop-place.taken stays c.loop-place.invariant.merged here is none in
          let ok : is_ok w.push-then-is_none.result ≡ true = w.push-then-is_none.ensures.succeeds (omega (arith, c.requires.room, c.loop-place.invariant.capacity)) in
          let items : w.push-then-is_none.new.self.items ≡ c.loop-place.next.items ++ get_or c.args.run.now c.loop-place.place 0 ∷ [] = rw ok at w.push-then-is_none.ensures.items in
          record {
            merged = rw (w.next-is, items, then_push stands targets c.loop-place.next.items p, then_stays stands targets p none)
                (merged_stand targets run leaving next c.loop-place.place c.loop-place.taken stays c.loop-place.invariant.merged c.requires.sorted here is none lower);
            within = c.loop-place.invariant.within;
            capacity = rw w.next-is (omega (arith, w.push-then-is_none.ensures.capacity, c.loop-place.invariant.capacity));
          })
      | else-is_none w ↦ (
          let some : is_some (target_of (targets_in c.args.targets.now) (stand_at c.args.stands.now (get_or c.args.run.now c.loop-place.place 0))) ≡ true = sym object ∙ c.is_none.ensures ∙ ap not w.if-is_none.false in
          record {
            merged = rw w.next-is (merged_skip targets run leaving next c.loop-place.place c.loop-place.taken stays c.loop-place.invariant.merged here is some);
            within = c.loop-place.invariant.within;
            capacity = rw w.next-is c.loop-place.invariant.capacity;
          })
    ]

pub loop-taken-preserved : goal.loop-taken-preserved
loop-taken-preserved c =
    let stands = c.args.stands.now in
    let targets = targets_in c.args.targets.now in
    let run = row c.args.stands.now c.args.run.now in
    let leaving = then_row c.args.stands.now (targets_in c.args.targets.now) c.args.leaving.now in
    let next = then_row c.args.stands.now (targets_in c.args.targets.now) c.loop-taken.next.items in
    let p = get_or c.args.leaving.now c.loop-taken.taken 0 in
    let leaves = then_at c.args.stands.now (targets_in c.args.targets.now) p in
    let size = then-length stands targets c.args.leaving.now in
    let run_size = row-length stands c.args.run.now in
    let made = then-length stands targets c.loop-taken.next.items in
    let is = sym (then_get stands targets c.args.leaving.now c.loop-taken.taken leaves c.loop-taken-test.true) in
    let within : c.loop-taken.taken < length leaving = omega (arith, c.loop-taken-test.true) in
    let room = room_for_leaving targets run leaving next c.loop-place.place c.loop-taken.taken c.loop-taken.invariant.merged within in
    let ok : is_ok c.push-in-loop-taken.result ≡ true = c.push-in-loop-taken.ensures.succeeds (omega (arith, c.requires.room, c.loop-place.invariant.capacity, c.loop-taken.invariant.capacity)) in
    let items : c.push-in-loop-taken.new.self.items ≡ c.loop-taken.next.items ++ get_or c.args.leaving.now c.loop-taken.taken 0 ∷ [] = rw ok at c.push-in-loop-taken.ensures.items in
    record {
      merged = rw (items, then_push stands targets c.loop-taken.next.items p) (merged_leaving targets run leaving next c.loop-place.place c.loop-taken.taken leaves c.loop-taken.invariant.merged c.requires.leaving_sorted within is
          (λ k d le lk. let past = c.loop-place-test.false in absurd (omega arith)));
      within = omega (arith, c.loop-taken-test.true);
      capacity = omega (arith, c.push-in-loop-taken.ensures.capacity, c.loop-taken.invariant.capacity);
    }

pub returns-clause-same : goal.returns-clause-same
returns-clause-same c =
    let size = then-length c.args.stands.now (targets_in c.args.targets.now) c.args.leaving.now in
    let run_size = row-length c.args.stands.now c.args.run.now in
    merged_all (targets_in c.args.targets.now) (row c.args.stands.now c.args.run.now) (then_row c.args.stands.now (targets_in c.args.targets.now) c.args.leaving.now)
    (then_row c.args.stands.now (targets_in c.args.targets.now) c.loop-taken.next.items) c.loop-place.place c.loop-taken.taken c.loop-taken.invariant.merged (omega (arith, c.loop-place-test.false)) (omega (arith, c.loop-taken-test.false))
