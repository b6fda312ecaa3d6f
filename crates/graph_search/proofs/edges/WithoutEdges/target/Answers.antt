use Rattle.std.proofs.Common.{arith}
use Rattle.graph_search.proofs.WithoutLemmas.{length-without, targets-left}
use Rattle.graph_search.proofs.edges.WithoutEdges.target.Goals as goal

pub target-requires-clause-node : goal.target-requires-clause-node
target-requires-clause-node g c =
    let same = length-without c.args.self.now.blocked.now (g.E.Edges.rows c.args.self.now.edges.now) in
    omega (arith, same, c.requires.node)

pub target-requires-clause-number : goal.target-requires-clause-number
target-requires-clause-number g c =
    let same = targets-left c.args.self.now.blocked.now (g.E.Edges.rows c.args.self.now.edges.now) c.args.node c.args.number c.requires.number in
    rw same at c.requires.number

pub returns : goal.returns
returns g c =
    let same = targets-left c.args.self.now.blocked.now (g.E.Edges.rows c.args.self.now.edges.now) c.args.node c.args.number c.requires.number in
    rw same c.target.ensures
