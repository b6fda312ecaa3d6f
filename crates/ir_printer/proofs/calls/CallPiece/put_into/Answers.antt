use Rattle.ir_printer.proofs.CallLemmas.{call_text-start}
use Rattle.ir_printer.proofs.calls.CallPiece.put_into.Goals as goal

pub returns-clause-ok : goal.returns-clause-ok
returns-clause-ok g c =
    rw (call_text-start c.args.self.now.scope.now c.args.self.now.callee c.args.self.now.types.now c.args.self.now.inst.now, ← c.ty.ensures, ← c.operands.ensures)
    c.put_into.ensures.ok

pub returns-clause-err : goal.returns-clause-err
returns-clause-err g c =
    rw (call_text-start c.args.self.now.scope.now c.args.self.now.callee c.args.self.now.types.now c.args.self.now.inst.now, ← c.ty.ensures, ← c.operands.ensures)
    c.put_into.ensures.err
