use Rattle.ir_printer.proofs.IntegerLemmas.{integer-digit}
use Rattle.ir_printer.proofs.words.IntegerPiece.put_into.Goals as goal

pub returns-then-number-lt10-clause-ok : goal.returns-then-number-lt10-clause-ok
returns-then-number-lt10-clause-ok g c =
    rw (integer-digit c.args.self.now.0 c.args.self.now.1 c.if-width-ge8.true c.if-number-lt10.true, ← c.digit.ensures) c.put.ensures.ok

pub returns-then-number-lt10-clause-err : goal.returns-then-number-lt10-clause-err
returns-then-number-lt10-clause-err g c =
    rw (integer-digit c.args.self.now.0 c.args.self.now.1 c.if-width-ge8.true c.if-number-lt10.true, ← c.digit.ensures) c.put.ensures.err
