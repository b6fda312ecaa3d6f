use Rattle.piece_writer.specs.LinePuts.{told_by}
use Rattle.piece_writer.proofs.LineLaws.{puts_none}
use Rattle.ir_machine.proofs.run.write_event.Goals as goal

pub returns-else-event-clause-ok : goal.returns-else-event-clause-ok
returns-else-event-clause-ok g c =
    rw c.if-event.false (puts_none (told_by g.O.Sink.written g.O.Sink.puts c.args.out.now))
