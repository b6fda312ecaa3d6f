use Rattle.ir_printer.proofs.calls.StatepointPiece.put_into.Goals as goal

pub returns-clause-err : goal.returns-clause-err
returns-clause-err g c =
    rw (← c.ty.ensures, ← c.bundle.ensures, ← c.operands-operands.ensures, ← c.after.ensures, ← c.statepoint_start.ensures, ← c.elementtype_start.ensures, ← c.statepoint_end.ensures) c.put_into.ensures.err
