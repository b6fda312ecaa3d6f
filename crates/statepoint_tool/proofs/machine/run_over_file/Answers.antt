use Rattle.std.proofs.lemmas.Result.{err_from_is_err_and}
use Rattle.piece_writer.specs.LinePuts.{told_by}
use Rattle.statepoint_tool.specs.Runners.{module_in}
use Rattle.statepoint_tool.specs.Work.{Executing, ReadingMap}
use Rattle.statepoint_tool.proofs.WorksLaws.{Works-taken, Works-untaken}
use Rattle.statepoint_tool.proofs.machine.run_over_file.Goals as goal

pub returns-in_err-bytes-clause-works : goal.returns-in_err-bytes-clause-works
returns-in_err-bytes-clause-works g c =
    let exit = err_from_is_err_and c.from_residual.result c.from_residual.ensures.1 in
    rw (exit.1, exit.2) (Works-untaken ReadingMap (Executing (module_in c.args.«module».now).content c.args.job.now.input.now c.args.job.now.plan.now c.args.job.now.steps c.args.job.now.shows)
    (told_by g.O.Sink.written g.O.Sink.puts c.args.out.now) (g.O.Sink.faults c.args.out.now) c.in_err-bytes.ensures.took)

pub returns-clause-works : goal.returns-clause-works
returns-clause-works g c =
    Works-taken ReadingMap (Executing (module_in c.args.«module».now).content c.args.job.now.input.now c.args.job.now.plan.now c.args.job.now.steps c.args.job.now.shows) c.in_ok-bytes.ensures.took
    (rw c.deref.ensures.value at c.run_over_bytes.ensures.came)
