use Rattle.std.proofs.Common.{rules}
use Rattle.piece_writer.proofs.EndLemmas.{front-from_last}
use Rattle.piece_writer.proofs.texts.put_text.Goals as goal

pub returns-clause-err : goal.returns-clause-err
returns-clause-err g c =
    front-from_last c.finish.result _ _ (g.S.Sink.faults c.args.out.now) (g.P.Piece.text c.args.text.now) _ _
    (rw c.new-writer.ensures.fresh at c.in_ok-put_into.ensures.ok.1) c.finish.ensures.err (search rules)
