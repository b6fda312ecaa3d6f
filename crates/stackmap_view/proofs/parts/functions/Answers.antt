use Rattle.std.proofs.Common.{ap, ◌∙◌, ◌-◌, ◌+◌}
use Rattle.std.proofs.lemmas.Result.{err_from_is_err_and}
use Rattle.stackmap_view.specs.Steps.{functions_at}
use Rattle.stackmap_view.proofs.LoopLaws.{functions_go_on, functions_stop, functions_are_done}
use Rattle.stackmap_view.proofs.parts.functions.Goals as goal

pub returns-in_err-records : goal.returns-in_err-records
returns-in_err-records c =
    let p = err_from_is_err_and c.from_residual.result c.from_residual.ensures.1 in
    rw (p.1, p.2) (functions_stop c.args.whole c.args.count c.functions.counter c.functions.counted c.functions.rest.now c.in_err-records.field-0.0 (functions_at c.args.count 0 c.args.whole c.args.bytes.now) c.functions-test.true c.in_err-records.ensures c.functions.invariant)

pub functions-preserved : goal.functions-preserved
functions-preserved c =
    ap (λ counted. functions_at (c.args.count - (c.functions.counter + 1)) counted c.args.whole c.in_ok-records.after.now) c.saturating_add-counted.ensures
    ∙ functions_go_on c.args.whole c.args.count c.functions.counter c.functions.counted c.in_ok-records.records c.functions.rest.now c.in_ok-records.after.now (functions_at c.args.count 0 c.args.whole c.args.bytes.now) c.functions-test.true c.in_ok-records.ensures c.functions.invariant

pub returns : goal.returns
returns c = functions_are_done c.args.whole c.args.count c.functions.counter c.functions.counted c.functions.rest.now (functions_at c.args.count 0 c.args.whole c.args.bytes.now) c.functions-test.false c.functions.invariant
