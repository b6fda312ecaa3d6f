use Rattle.ir_printer.proofs.RunLemmas.{joined-run}
use Rattle.ir_printer.proofs.runs.RunPiece.put_into.Goals as goal

pub returns-clause-ok : goal.returns-clause-ok
returns-clause-ok g c = rw (joined-run (g.R.Row.texts c.args.self.now.0)) c.put_from.ensures.ok

pub returns-clause-err : goal.returns-clause-err
returns-clause-err g c = rw (joined-run (g.R.Row.texts c.args.self.now.0)) c.put_from.ensures.err
