use Rattle.std.proofs.Common.{codes}
use Rattle.std.proofs.lemmas.Result.{on_ok_weaker, on_err_weaker}
use Rattle.std.specs.List.{zip}
use Rattle.piece_writer.proofs.RowLemmas.{joined-first}
use Rattle.ir_printer.specs.Calls.{arguments_of}
use Rattle.ir_printer.specs.Operands.{argument_text}
use Rattle.ir_printer.proofs.RunLemmas.{led-within-from}
use Rattle.ir_printer.proofs.calls.ArgumentListPiece.put_into.Goals as goal

pub returns-clause-ok : goal.returns-clause-ok
returns-clause-ok g c =
    let names = c.args.self.now.scope.now in
    let pairs = zip c.args.self.now.types.now c.args.self.now.operands.now in
    rw (
      joined-first (codes ", ") (arguments_of names c.args.self.now.types.now c.args.self.now.operands.now),
      ← led-within-from (codes ", ") (λ argument. argument_text names argument.0 argument.1) pairs 1,
    )
    (on_ok_weaker c.put_from.result (g.met.W.PieceSink.took_both _ _ _ _ _ c.in_ok-put_at.ensures.ok) c.put_from.ensures.ok)

pub returns-clause-err : goal.returns-clause-err
returns-clause-err g c =
    let names = c.args.self.now.scope.now in
    let pairs = zip c.args.self.now.types.now c.args.self.now.operands.now in
    rw (
      joined-first (codes ", ") (arguments_of names c.args.self.now.types.now c.args.self.now.operands.now),
      ← led-within-from (codes ", ") (λ argument. argument_text names argument.0 argument.1) pairs 1,
    )
    (on_err_weaker c.put_from.result (g.met.W.PieceSink.failed_in_second _ _ _ _ _ c.in_ok-put_at.ensures.ok) c.put_from.ensures.err)
