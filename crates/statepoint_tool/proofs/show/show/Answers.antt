use Rattle.std.proofs.lemmas.Result.{err_from_is_err_and}
use Rattle.piece_writer.specs.LinePuts.{told_by}
use Rattle.statepoint_tool.specs.Work.{show_phase}
use Rattle.statepoint_tool.proofs.WorksLaws.{Works-shown, Works-stops_at, Works-goes_on_at}
use Rattle.statepoint_tool.proofs.show.show.Goals as goal

pub returns-in_err-read-clause-works : goal.returns-in_err-read-clause-works
returns-in_err-read-clause-works g c =
    let exit = err_from_is_err_and c.from_residual.result c.from_residual.ensures.1 in
    rw (exit.1, exit.2) (Works-shown (Works-stops_at show_phase
    (told_by g.O.Sink.written g.O.Sink.puts c.args.out.now) (g.O.Sink.faults c.args.out.now) c.in_err-read.ensures.read))

pub returns-clause-works : goal.returns-clause-works
returns-clause-works g c = Works-shown (Works-goes_on_at show_phase c.in_ok-read.ensures.read c.show_module-shown.ensures.came)
