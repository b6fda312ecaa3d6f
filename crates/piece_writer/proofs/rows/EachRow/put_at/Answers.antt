use Rattle.piece_writer.proofs.RowLemmas.{text-none}
use Rattle.piece_writer.proofs.rows.EachRow.put_at.Goals as goal

pub returns-in-None-clause-ok : goal.returns-in-None-clause-ok
returns-in-None-clause-ok g c =
    rw (text-none (g.P.Printer.element_text c.args.self.now.printer) c.args.self.now.elements.now c.args.place c.in-None.ensures.lookup.3)
    (g.met.W.PieceSink.took_nothing _)
