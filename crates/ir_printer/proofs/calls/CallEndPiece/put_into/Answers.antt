use Rattle.ir_printer.proofs.CallLemmas.{bundles-none}
use Rattle.ir_printer.proofs.calls.CallEndPiece.put_into.Goals as goal

pub returns-then-is_empty-clause-ok : goal.returns-then-is_empty-clause-ok
returns-then-is_empty-clause-ok g c =
    rw (bundles-none c.args.self.now.scope.now c.args.self.now.inst.now.bundle (rw (← c.bundle.ensures) c.if-is_empty.ensures)) c.put.ensures.ok

pub returns-then-is_empty-clause-err : goal.returns-then-is_empty-clause-err
returns-then-is_empty-clause-err g c =
    rw (bundles-none c.args.self.now.scope.now c.args.self.now.inst.now.bundle (rw (← c.bundle.ensures) c.if-is_empty.ensures)) c.put.ensures.err
