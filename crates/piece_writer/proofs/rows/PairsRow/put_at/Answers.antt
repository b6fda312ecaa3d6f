use Rattle.std.proofs.Common.{arith}
use Rattle.piece_writer.proofs.RowLemmas.{pair-text-some, pair-text-none}
use Rattle.piece_writer.proofs.rows.PairsRow.put_at.Goals as goal

pub returns-in-Some-get-clause-ok : goal.returns-in-Some-get-clause-ok
returns-in-Some-get-clause-ok g c =
    let one = c.in-Some.ensures.lookup in
    let two = c.in-Some-get.ensures.lookup in
    rw (pair-text-some (λ (pair : g.row.A.Denot × g.row.B.Denot). g.P.PairPrinter.pair_text c.args.self.now.printer pair.0 pair.1)
    c.args.self.now.first.now c.args.self.now.second.now c.args.place c.in-Some.first.now c.in-Some-get.second.now one.3.0 two.3.0 one.1 two.1)
    c.put_pair.ensures.ok

pub returns-in-Some-get-clause-err : goal.returns-in-Some-get-clause-err
returns-in-Some-get-clause-err g c =
    let one = c.in-Some.ensures.lookup in
    let two = c.in-Some-get.ensures.lookup in
    rw (pair-text-some (λ (pair : g.row.A.Denot × g.row.B.Denot). g.P.PairPrinter.pair_text c.args.self.now.printer pair.0 pair.1)
    c.args.self.now.first.now c.args.self.now.second.now c.args.place c.in-Some.first.now c.in-Some-get.second.now one.3.0 two.3.0 one.1 two.1)
    c.put_pair.ensures.err

pub returns-in-None-get-clause-ok : goal.returns-in-None-get-clause-ok
returns-in-None-get-clause-ok g c =
    let ended = c.in-None-get.ensures.lookup.3 in
    rw (pair-text-none (λ (pair : g.row.A.Denot × g.row.B.Denot). g.P.PairPrinter.pair_text c.args.self.now.printer pair.0 pair.1)
    c.args.self.now.first.now c.args.self.now.second.now c.args.place (omega arith)) (g.met.W.PieceSink.took_nothing _)

pub returns-in-None-clause-ok : goal.returns-in-None-clause-ok
returns-in-None-clause-ok g c =
    let ended = c.in-None.ensures.lookup.3 in
    rw (pair-text-none (λ (pair : g.row.A.Denot × g.row.B.Denot). g.P.PairPrinter.pair_text c.args.self.now.printer pair.0 pair.1)
    c.args.self.now.first.now c.args.self.now.second.now c.args.place (omega arith)) (g.met.W.PieceSink.took_nothing _)
