use Rattle.ir_printer.proofs.lines.StorePiece.put_into.Goals as goal

pub returns-clause-ok : goal.returns-clause-ok
returns-clause-ok g c =
    rw (← c.ty.ensures, ← c.operand_of.ensures) c.put_then.ensures.ok
