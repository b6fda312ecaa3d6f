use Rattle.std.proofs.Common.{sym, ◌∙◌, arith}
use Rattle.std.proofs.lemmas.Result.{err_from_is_err_and}
use Rattle.piece_writer.proofs.SinkLemmas.{TookBefore-next, TookBefore-failed}
use Rattle.stackmap_view.specs.Maps.{stack_map}
use Rattle.stackmap_view.specs.Views.{seen}
use Rattle.stackmap_view.specs.Walks.{records_left}
use Rattle.tool_report.proofs.MapTextLemmas.{records_next, rest_next, rest_none}
use Rattle.tool_report.proofs.maps.put_records.Goals as goal

pub putting-preserved : goal.putting-preserved
putting-preserved g c = (
  TookBefore-next g.W.PieceSink.took g.W.PieceSink.failed_within g.met.W.PieceSink.took_both _ _ _ _ _ _ _ c.putting.invariant.0 c.in_ok-put_into.ensures.ok
      (records_next (stack_map c.args.view).constants (records_left c.putting.records) (records_left c.next.new.self) (seen c.in-Some.record) c.args.count c.putting.counter c.putting-test.true c.in-Some.ensures.steps),
  rest_next (records_left c.args.records.now) (records_left c.putting.records) (records_left c.next.new.self) (seen c.in-Some.record) c.putting.counter c.putting.invariant.1 c.in-Some.ensures.steps,
)

pub returns-in_err-put_into-clause-err : goal.returns-in_err-put_into-clause-err
returns-in_err-put_into-clause-err g c =
    let exit = err_from_is_err_and c.from_residual.result c.from_residual.ensures.1 in
    rw exit.1 (TookBefore-failed g.W.PieceSink.took g.W.PieceSink.failed_within g.met.W.PieceSink.failed_in_first g.met.W.PieceSink.failed_in_second _ _ _ _ _ _ _ c.putting.invariant.0 c.in_err-put_into.ensures.err
    (records_next (stack_map c.args.view).constants (records_left c.putting.records) (records_left c.next.new.self) (seen c.in-Some.record) c.args.count c.putting.counter c.putting-test.true c.in-Some.ensures.steps))

pub returns-in_default-clause-rest : goal.returns-in_default-clause-rest
returns-in_default-clause-rest g c =
    let none = c.in_default.ensures.steps in
    none.1 ∙ sym (rest_none (records_left c.args.records.now) (records_left c.putting.records) c.putting.counter c.args.count c.putting.invariant.1 none.0 (omega (arith, c.putting-test.true)))
