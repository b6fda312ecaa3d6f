use Rattle.std.proofs.Common.{refl}
use Rattle.std.proofs.lemmas.Result.{err_from_is_err_and}
use Rattle.piece_writer.proofs.SinkLemmas.{TookBefore-next, TookBefore-failed}
use Rattle.stackmap_view.specs.Maps.{stack_map}
use Rattle.stackmap_view.specs.Walks.{records_left}
use Rattle.tool_report.proofs.MapTextLemmas.{function_next}
use Rattle.tool_report.proofs.maps.put_functions.Goals as goal

pub loop-index-preserved : goal.loop-index-preserved
loop-index-preserved g c =
    TookBefore-next g.W.PieceSink.took g.W.PieceSink.failed_within g.met.W.PieceSink.took_both _ _ _ _ _ _ _ c.loop-index.invariant c.in_ok-put_function.ensures.ok
    (function_next (stack_map c.args.view.now).constants (stack_map c.args.view.now).functions (records_left c.loop-index.records) (records_left c.put_function.new.records) c.loop-index.index c.function-function.result
    c.function-function.ensures c.in_ok-put_function.ensures.rest)

pub returns-in_err-put_function-clause-err : goal.returns-in_err-put_function-clause-err
returns-in_err-put_function-clause-err g c =
    let exit = err_from_is_err_and c.from_residual.result c.from_residual.ensures.1 in
    rw exit.1 (TookBefore-failed g.W.PieceSink.took g.W.PieceSink.failed_within g.met.W.PieceSink.failed_in_first g.met.W.PieceSink.failed_in_second _ _ _ _ _ _ _ c.loop-index.invariant c.in_err-put_function.ensures.err
    (function_next (stack_map c.args.view.now).constants (stack_map c.args.view.now).functions (records_left c.loop-index.records) _ c.loop-index.index c.function-function.result c.function-function.ensures refl))
