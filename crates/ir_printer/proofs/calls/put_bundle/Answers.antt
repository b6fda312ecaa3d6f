use Rattle.ir_printer.proofs.calls.put_bundle.Goals as goal

pub returns-clause-ok : goal.returns-clause-ok
returns-clause-ok g c = rw (← c.bundle.ensures) c.put_then.ensures.ok

pub returns-clause-err : goal.returns-clause-err
returns-clause-err g c = rw (← c.bundle.ensures) c.put_then.ensures.err
