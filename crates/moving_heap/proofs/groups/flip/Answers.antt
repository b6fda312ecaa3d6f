use Rattle.std.proofs.Common.{◌<◌, None, get_or, length, sym, ap, ◌∙◌, arith}
use Rattle.std.proofs.lemmas.List.{length-map}
use Rattle.std.proofs.lemmas.List.Sums.{sum_by-drop_more}
use Rattle.moving_heap.specs.declared.stands.Stand.{Stand}
use Rattle.moving_heap.specs.declared.stands.Moved.{Moved}
use Rattle.moving_heap.specs.Orders.{targets_in, target_in}
use Rattle.moving_heap.proofs.StepLemmas.{flipped_stays, flipped_sets, blank}
use Rattle.moving_heap.proofs.GroupLemmas.{target_at, some_target, no_target, targets_set, olds_set}
use Rattle.moving_heap.proofs.groups.flip.Goals as goal
use Rattle.moving_heap.proofs.groups.flip.Goals.{then-targets-place-eq0, else-targets-place-eq0}

abbrev unmoved : Moved
unmoved = record { old = 0; new = 0 }

pub loop-place-preserved : goal.loop-place-preserved
loop-place-preserved c =
    let moves = c.loop-place.targets in
    let place = c.loop-place.place in
    let move = get_or c.loop-place.targets c.loop-place.place unmoved in
    let size = length-map c.loop-place.targets target_in in
    let among : c.loop-place.place < length c.args.stands.now = omega (arith, c.loop-place-test.true, c.len-place-end.ensures) in
    let bytes = ap (λ (s : Stand). s.size) c.at-stand.ensures in
    let sum = sum_by-drop_more (λ stand. stand.size) c.args.stands.now c.loop-place.place blank among in
    let here : c.loop-place.place < length c.loop-place.targets = omega (arith, c.loop-place.invariant.size, among) in
    let within : c.loop-place.place < length (targets_in c.loop-place.targets) = omega arith in
    elim c.if-targets-place-eq0.branch [
      | then-targets-place-eq0 w ↦ (
          let none = target_at moves place unmoved here ∙ no_target move w.if-targets-place-eq0.true in
          let step = flipped_sets c.loop-place.at c.args.stands.now (targets_in moves) place blank None among within none in
          let named = targets_set moves place c.loop-place.at unmoved here (λ e. let zero_not = c.loop-place.invariant.some in let no : ⊥ = omega arith in no) in
          record {
            same = rw (w.targets-is, w.at-is, named, w.from-at.ensures, c.at-stand.ensures) (sym step ∙ c.loop-place.invariant.same);
            some = rw w.at-is (omega (arith, c.loop-place.invariant.some));
            room = rw w.at-is (omega (arith, w.from-at.ensures, bytes, c.loop-place.invariant.room));
            size = c.if-targets-place-eq0.auto.targets ∙ c.loop-place.invariant.size;
            olds = rw w.targets-is (olds_set moves place c.loop-place.at unmoved here ∙ c.loop-place.invariant.olds);
          })
      | else-targets-place-eq0 w ↦ (
          let some = target_at moves place unmoved here ∙ some_target move w.if-targets-place-eq0.false in
          let step = flipped_stays c.loop-place.at c.args.stands.now (targets_in moves) place move.new blank None among within some in
          record {
            same = rw (w.targets-is, w.at-is) (sym step ∙ c.loop-place.invariant.same);
            some = rw w.at-is c.loop-place.invariant.some;
            room = rw w.at-is (omega (arith, c.loop-place.invariant.room));
            size = c.if-targets-place-eq0.auto.targets ∙ c.loop-place.invariant.size;
            olds = rw w.targets-is c.loop-place.invariant.olds;
          })
    ]
