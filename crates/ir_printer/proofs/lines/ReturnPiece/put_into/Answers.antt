use Rattle.ir_printer.proofs.LineLemmas.{return_text-answer}
use Rattle.ir_printer.proofs.lines.ReturnPiece.put_into.Goals as goal

pub returns-in_default-clause-ok : goal.returns-in_default-clause-ok
returns-in_default-clause-ok g c =
    rw (return_text-answer c.args.self.now.scope.now c.args.self.now.ty c.args.self.now.inst.now c.in_default.not-Void)
    c.put_into.ensures.ok

pub returns-in_default-clause-err : goal.returns-in_default-clause-err
returns-in_default-clause-err g c =
    rw (return_text-answer c.args.self.now.scope.now c.args.self.now.ty c.args.self.now.inst.now c.in_default.not-Void)
    c.put_into.ensures.err
