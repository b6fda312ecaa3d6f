use Rattle.std.proofs.lemmas.Result.{err_from_is_err_and}
use Rattle.stackmap_view.specs.Steps.{live_out_at, live_outs_at}
use Rattle.stackmap_view.proofs.LoopLaws.{goes_on, stops, is_done}
use Rattle.stackmap_view.proofs.parts.live_outs.Goals as goal

pub returns-in_err-rest : goal.returns-in_err-rest
unfolding live_outs_at
returns-in_err-rest c =
    let p = err_from_is_err_and c.from_residual.result c.from_residual.ensures.1 in
    rw (p.1, p.2) (stops (live_out_at c.args.whole) c.args.count c.live_outs.counter c.live_outs.rest.now c.in_err-rest.field-0.0 (live_outs_at c.args.count c.args.whole c.args.bytes.now) c.live_outs-test.true c.in_err-rest.ensures c.live_outs.invariant)

pub live_outs-preserved : goal.live_outs-preserved
unfolding live_outs_at
live_outs-preserved c = goes_on (live_out_at c.args.whole) c.args.count c.live_outs.counter c.live_outs.rest.now c.in_ok-rest.rest.now (live_outs_at c.args.count c.args.whole c.args.bytes.now) c.live_outs-test.true c.in_ok-rest.ensures c.live_outs.invariant

pub returns : goal.returns
unfolding live_outs_at
returns c = is_done (live_out_at c.args.whole) c.args.count c.live_outs.counter c.live_outs.rest.now (live_outs_at c.args.count c.args.whole c.args.bytes.now) c.live_outs-test.false c.live_outs.invariant
