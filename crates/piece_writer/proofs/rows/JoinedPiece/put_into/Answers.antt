use Rattle.std.proofs.lemmas.Result.{on_ok_weaker, on_err_weaker}
use Rattle.piece_writer.proofs.RowLemmas.{joined-first}
use Rattle.piece_writer.proofs.rows.JoinedPiece.put_into.Goals as goal

pub returns-clause-ok : goal.returns-clause-ok
returns-clause-ok g c =
    rw (joined-first c.args.self.now.separator.now (g.R.Row.texts c.args.self.now.row))
    (on_ok_weaker c.put_led.result (g.met.W.PieceSink.took_both _ _ _ _ _ c.in_ok-put_at.ensures.ok) c.put_led.ensures.ok)

pub returns-clause-err : goal.returns-clause-err
returns-clause-err g c =
    rw (joined-first c.args.self.now.separator.now (g.R.Row.texts c.args.self.now.row))
    (on_err_weaker c.put_led.result (g.met.W.PieceSink.failed_in_second _ _ _ _ _ c.in_ok-put_at.ensures.ok) c.put_led.ensures.err)
