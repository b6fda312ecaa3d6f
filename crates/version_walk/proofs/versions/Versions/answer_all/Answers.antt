use Rattle.std.proofs.Common.{◌≡◌, ◌∙◌, ◌+◌, sym, refl, ap, subst, length, take, drop, set, List, ◌++◌, Some, arith, append-nil}
use Rattle.std.proofs.lemmas.List.{length-set, drop_all, take_all}
use Rattle.std.proofs.lemmas.Option.{slice_get_read}
use Rattle.version_walk.specs.declared.slots.Slot.{Slot}
use Rattle.version_walk.specs.declared.slots.Slot.TheVariants.{Number}
use Rattle.version_walk.specs.Slots.{answered, current_behind}
use Rattle.version_walk.proofs.SlotLemmas.{answered_more, behind_more, next_le, logged_none, logged_more}
use Rattle.version_walk.proofs.versions.Versions.answer_all.Goals as goal

pub next_after-next-requires : goal.next_after-next-requires
next_after-next-requires c = omega (arith, c.loop-place.invariant.room, c.loop-place.invariant.whole, c.requires)

pub loop-place-init : goal.loop-place-init
loop-place-init c = record { row = refl; current = refl; log = logged_none c.args.self.now; whole = refl; room = omega arith }

pub loop-place-preserved : goal.loop-place-preserved
loop-place-preserved c =
    let row = c.loop-place.row.items in
    let place = c.loop-place.place in
    let slot = c.slot-slot.result in
    let stands = slice_get_read row (length row) place c.index.result.now (λ _. length row) (omega (arith, c.loop-place-test.true, c.loop-place.invariant.whole)) c.index.ensures
    ∙ ap Some (sym c.slot-slot.ensures) in
    let put : Number c.in_ok-number.number ≡ c.in_ok-row.field-0 = sym c.in_ok-row.ensures in
    record {
      row = subst (λ (y : Slot). answered c.args.self.now.current.items c.args.start c.args.row.now.items
          ≡ take (place + 1) (set row place y) ++ answered c.answer.new.self.current.items c.next_after-next.result (drop (place + 1) (set row place y))) put
          (answered_more c.loop-place.self.current.items c.answer.new.self.current.items c.loop-place.next c.next_after-next.result c.in_ok-number.number _ row place
          slot stands c.in_ok-number.ensures.number c.next_after-next.ensures c.in_ok-number.ensures.current c.loop-place.invariant.row);
      current = behind_more c.loop-place.self.current.items c.answer.new.self.current.items c.loop-place.next c.next_after-next.result _ row place
          slot c.in_ok-row.field-0 stands c.next_after-next.ensures c.in_ok-number.ensures.current c.loop-place.invariant.current;
      log = logged_more c.args.self.now c.loop-place.self c.answer.new.self c.loop-place.invariant.log c.in_ok-number.ensures.log;
      whole = length-set row place c.in_ok-row.field-0 ∙ c.loop-place.invariant.whole;
      room = let le = next_le c.loop-place.next slot in omega (arith, le, c.next_after-next.ensures, c.loop-place.invariant.room);
    }

pub returns : goal.returns
returns c =
    let row = c.loop-place.row.items in
    let place = c.loop-place.place in
    let past = c.loop-place.invariant.whole in
    let none = drop_all place row (omega (arith, c.loop-place-test.false, past)) in
    let all = take_all place row (omega (arith, c.loop-place-test.false, past)) in
    record {
      row = sym (c.loop-place.invariant.row
          ∙ ap (λ (ss : List Slot). take place row ++ answered c.loop-place.self.current.items c.loop-place.next ss) none
          ∙ append-nil (take place row) ∙ all);
      current = sym (c.loop-place.invariant.current ∙ ap (current_behind c.loop-place.self.current.items c.loop-place.next) none);
      log = c.loop-place.invariant.log;
    }
