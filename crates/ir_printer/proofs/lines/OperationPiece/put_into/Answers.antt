use Rattle.ir_printer.proofs.lines.OperationPiece.put_into.Goals as goal

pub returns-in-Gep-clause-ok : goal.returns-in-Gep-clause-ok
returns-in-Gep-clause-ok g c = rw c.in-Gep.is c.put_into-in-Gep.ensures.ok

pub returns-in-Call-clause-ok : goal.returns-in-Call-clause-ok
returns-in-Call-clause-ok g c = rw (c.in-Call.is, ← c.list.ensures) c.put_into-in-Call.ensures.ok

pub returns-in-Call-clause-err : goal.returns-in-Call-clause-err
returns-in-Call-clause-err g c = rw (c.in-Call.is, ← c.list.ensures) c.put_into-in-Call.ensures.err

pub returns-in-Statepoint-clause-ok : goal.returns-in-Statepoint-clause-ok
returns-in-Statepoint-clause-ok g c =
    rw (c.in-Statepoint.is, ← c.list-in-Statepoint.ensures) c.put_into-in-Statepoint.ensures.ok

pub returns-in-Statepoint-clause-err : goal.returns-in-Statepoint-clause-err
returns-in-Statepoint-clause-err g c =
    rw (c.in-Statepoint.is, ← c.list-in-Statepoint.ensures) c.put_into-in-Statepoint.ensures.err

pub returns-in-Unreachable-clause-ok : goal.returns-in-Unreachable-clause-ok
returns-in-Unreachable-clause-ok g c = rw c.in-Unreachable.is c.put.ensures.ok
