use Rattle.std.proofs.lemmas.Result.{err_from_is_err_and}
use Rattle.stackmap_view.specs.Steps.{place_at, places_at}
use Rattle.stackmap_view.proofs.LoopLaws.{goes_on, stops, is_done}
use Rattle.stackmap_view.proofs.parts.places.Goals as goal

pub returns-in_err-rest : goal.returns-in_err-rest
unfolding places_at
returns-in_err-rest c =
    let p = err_from_is_err_and c.from_residual.result c.from_residual.ensures.1 in
    rw (p.1, p.2) (stops (place_at c.args.constants c.args.whole) c.args.count c.places.counter c.places.rest.now c.in_err-rest.field-0.0 (places_at c.args.constants c.args.count c.args.whole c.args.bytes.now) c.places-test.true c.in_err-rest.ensures c.places.invariant)

pub places-preserved : goal.places-preserved
unfolding places_at
places-preserved c = goes_on (place_at c.args.constants c.args.whole) c.args.count c.places.counter c.places.rest.now c.in_ok-rest.rest.now (places_at c.args.constants c.args.count c.args.whole c.args.bytes.now) c.places-test.true c.in_ok-rest.ensures c.places.invariant

pub returns : goal.returns
unfolding places_at
returns c = is_done (place_at c.args.constants c.args.whole) c.args.count c.places.counter c.places.rest.now (places_at c.args.constants c.args.count c.args.whole c.args.bytes.now) c.places-test.false c.places.invariant
