use Rattle.ir_printer.proofs.lines.StepStartPiece.put_into.Goals as goal

pub returns-in-Layout-clause-ok : goal.returns-in-Layout-clause-ok
returns-in-Layout-clause-ok g c = rw (c.in-Layout.is, ← c.layout.ensures) c.put_both.ensures.ok

pub returns-in-Layout-clause-err : goal.returns-in-Layout-clause-err
returns-in-Layout-clause-err g c = rw (c.in-Layout.is, ← c.layout.ensures) c.put_both.ensures.err
