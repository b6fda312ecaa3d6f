use Rattle.std.proofs.Common.{arith}
use Rattle.live_sets.proofs.EndLemmas.{rows_length}
use Rattle.live_sets.proofs.ends.BackwardEdges.node_count.Goals as goal

pub returns : goal.returns
returns c =
    let places = c.args.self.now in
    let all = rows_length places.fronts places.firsts places.value in
    omega (arith, all, c.count-count.ensures.is)
