use Rattle.std.proofs.Common.{◌∙◌, sym}
use Rattle.graph_search.proofs.WithoutLemmas.{length-without}
use Rattle.graph_search.proofs.edges.WithoutEdges.node_count.Goals as goal

pub returns : goal.returns
returns g c = c.node_count.ensures ∙ sym (length-without c.args.self.now.blocked.now (g.E.Edges.rows c.args.self.now.edges.now))
