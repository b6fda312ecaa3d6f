use Rattle.std.proofs.lemmas.Result.{err_from_is_err_and}
use Rattle.stackmap_view.specs.Steps.{record_at, records_at}
use Rattle.stackmap_view.proofs.LoopLaws.{goes_on, stops, is_done}
use Rattle.stackmap_view.proofs.parts.records.Goals as goal

pub returns-in_err-rest : goal.returns-in_err-rest
unfolding records_at
returns-in_err-rest c =
    let p = err_from_is_err_and c.from_residual.result c.from_residual.ensures.1 in
    rw (p.1, p.2) (stops (record_at c.args.constants c.args.whole) c.args.count c.records.counter c.records.rest.now c.in_err-rest.field-0.0 (records_at c.args.constants c.args.count c.args.whole c.args.bytes.now) c.records-test.true c.in_err-rest.ensures c.records.invariant)

pub records-preserved : goal.records-preserved
unfolding records_at
records-preserved c = goes_on (record_at c.args.constants c.args.whole) c.args.count c.records.counter c.records.rest.now c.in_ok-rest.rest.now (records_at c.args.constants c.args.count c.args.whole c.args.bytes.now) c.records-test.true c.in_ok-rest.ensures c.records.invariant

pub returns : goal.returns
unfolding records_at
returns c = is_done (record_at c.args.constants c.args.whole) c.args.count c.records.counter c.records.rest.now (records_at c.args.constants c.args.count c.args.whole c.args.bytes.now) c.records-test.false c.records.invariant
