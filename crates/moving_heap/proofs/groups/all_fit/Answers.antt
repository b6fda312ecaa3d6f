use Rattle.std.proofs.Common.{None, Option, ℕ, true, ◌∙◌, ◌&&◌, ◌+◌, ◌<◌, length, sym, ap, drop, get_or, arith}
use Rattle.std.specs.Option.{option_map_or}
use Rattle.std.proofs.lemmas.List.{length-map}
use Rattle.moving_heap.specs.declared.stands.Stand.{Stand}
use Rattle.moving_heap.specs.declared.stands.Moved.{Moved}
use Rattle.moving_heap.specs.Places.{all_fit, fits}
use Rattle.moving_heap.specs.Orders.{targets_in, target_in}
use Rattle.moving_heap.proofs.StepLemmas.{all_fit_step, blank}
use Rattle.moving_heap.proofs.GroupLemmas.{target_at}
use Rattle.moving_heap.proofs.groups.all_fit.Goals as goal

abbrev unmoved : Moved
unmoved = record { old = 0; new = 0 }

pub returns-then-not-fits_or_stays : goal.returns-then-not-fits_or_stays
returns-then-not-fits_or_stays c =
    let size = length-map c.args.targets.now target_in in
    let among : c.loop-place.place < length c.args.stands.now = omega (arith, c.loop-place-test.true, c.len-place-end.ensures) in
    let at = target_at c.args.targets.now c.loop-place.place unmoved (omega (arith, c.requires.same, among)) ∙ sym c.target_in.ensures in
    let s = all_fit_step c.args.stands.now (targets_in c.args.targets.now) c.loop-place.place blank None among (omega (arith, c.requires.same, among)) in
    let test = ap (λ (s : Stand). option_map_or (fits s) (get_or (targets_in c.args.targets.now) c.loop-place.place None) true) (sym c.at-stand.ensures) ∙ ap (λ (o : Option ℕ). option_map_or (fits c.at-stand.result) o true) at ∙ sym c.fits_or_stays.ensures ∙ c.if-not-fits_or_stays.true in
    sym (sym c.loop-place.invariant ∙ s ∙ ap (λ b. b && all_fit (drop (c.loop-place.place + 1) c.args.stands.now) (drop (c.loop-place.place + 1) (targets_in c.args.targets.now))) test)

pub loop-place-preserved : goal.loop-place-preserved
loop-place-preserved c =
    let size = length-map c.args.targets.now target_in in
    let among : c.loop-place.place < length c.args.stands.now = omega (arith, c.loop-place-test.true, c.len-place-end.ensures) in
    let at = target_at c.args.targets.now c.loop-place.place unmoved (omega (arith, c.requires.same, among)) ∙ sym c.target_in.ensures in
    let s = all_fit_step c.args.stands.now (targets_in c.args.targets.now) c.loop-place.place blank None among (omega (arith, c.requires.same, among)) in
    let test = ap (λ (s : Stand). option_map_or (fits s) (get_or (targets_in c.args.targets.now) c.loop-place.place None) true) (sym c.at-stand.ensures) ∙ ap (λ (o : Option ℕ). option_map_or (fits c.at-stand.result) o true) at ∙ sym c.fits_or_stays.ensures ∙ c.if-not-fits_or_stays.false in
    sym (s ∙ ap (λ b. b && all_fit (drop (c.loop-place.place + 1) c.args.stands.now) (drop (c.loop-place.place + 1) (targets_in c.args.targets.now))) test) ∙ c.loop-place.invariant
