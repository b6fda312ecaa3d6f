use Rattle.ir_printer.proofs.lines.StepPiece.put_into.Goals as goal

pub returns-clause-ok : goal.returns-clause-ok
returns-clause-ok g c = rw (← c.operand_of.ensures) c.put_into.ensures.ok

pub returns-clause-err : goal.returns-clause-err
returns-clause-err g c = rw (← c.operand_of.ensures) c.put_into.ensures.err
