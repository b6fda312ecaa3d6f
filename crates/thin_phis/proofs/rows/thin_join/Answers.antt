use Rattle.std.proofs.Common.{◌≡◌, ◌∙◌, inl, inr, List, [], ◌++◌, length, map, drop, ap, sym, arith}
use Rattle.std.proofs.lemmas.Bool.{cases_lt}
use Rattle.sp_ids.specs.declared.ids.ValueId.{ValueId}
use Rattle.version_walk.specs.declared.slots.Slot.{Slot}
use Rattle.ssa_rebuild.specs.Answers.{number_of}
use Rattle.thin_phis.specs.Thinned.{stays}
use Rattle.thin_phis.specs.Runs.{left_at}
use Rattle.thin_phis.proofs.RunLemmas.{dropped_all, none_left, whole}
use Rattle.thin_phis.proofs.rows.thin_join.Goals as goal

pub returns : goal.returns
returns c =
    let join = c.args.join.now in
    let slots = c.args.slots.now in
    let place = c.loop-place.place in
    let p = stays c.args.numbers.now in
    let none : left_at p (drop place join) (map number_of (drop place slots)) ≡ [] =
    elim (cases_lt place (length join)) [
      | inl below ↦
          ap (λ (ss : List Slot). left_at p (drop place join) (map number_of ss)) (dropped_all place slots (omega (arith, below, c.min-place-end.ensures, c.loop-place-test.false)))
          ∙ none_left p (drop place join)
      | inr past ↦ ap (λ (vs : List ValueId). left_at p vs (map number_of (drop place slots))) (dropped_all place join (omega (arith, past)))
    ] in
    sym (c.loop-place.invariant ∙ ap (λ (vs : List ValueId). c.loop-place.after.items ++ vs) none ∙ whole c.loop-place.after.items)
