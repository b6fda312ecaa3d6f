use Rattle.std.proofs.Common.{[], arith}
use Rattle.std.proofs.lemmas.Result.{err_from_is_err_and}
use Rattle.piece_writer.proofs.SinkLemmas.{TookBefore-start, TookBefore-next, TookBefore-end, TookBefore-failed}
use Rattle.piece_writer.proofs.RowLemmas.{led-drop, led-drop-end}
use Rattle.ir_printer.proofs.runs.put_from.Goals as goal

pub loop-place-init : goal.loop-place-init
loop-place-init g c =
    TookBefore-start g.W.PieceSink.took g.W.PieceSink.failed_within g.met.W.PieceSink.took_nothing _ _

pub loop-place-preserved : goal.loop-place-preserved
loop-place-preserved g c =
    TookBefore-next g.W.PieceSink.took g.W.PieceSink.failed_within g.met.W.PieceSink.took_both _ _ _ _ _ _ _ c.loop-place.invariant c.in_ok-put_at.ensures.ok
    (led-drop [] (g.R.Row.texts c.args.row.now) c.loop-place.place (omega arith))

pub returns-in_err-put_at-clause-err : goal.returns-in_err-put_at-clause-err
returns-in_err-put_at-clause-err g c =
    let exit = err_from_is_err_and c.from_residual.result c.from_residual.ensures.1 in
    rw exit.1 (TookBefore-failed g.W.PieceSink.took g.W.PieceSink.failed_within g.met.W.PieceSink.failed_in_first g.met.W.PieceSink.failed_in_second _ _ _ _ _ _ _ c.loop-place.invariant c.in_err-put_at.ensures.err
    (led-drop [] (g.R.Row.texts c.args.row.now) c.loop-place.place (omega arith)))

pub returns-clause-ok : goal.returns-clause-ok
returns-clause-ok g c =
    TookBefore-end g.W.PieceSink.took g.W.PieceSink.failed_within _ _ _
    (rw (led-drop-end [] (g.R.Row.texts c.args.row.now) c.loop-place.place (omega arith)) at c.loop-place.invariant)
