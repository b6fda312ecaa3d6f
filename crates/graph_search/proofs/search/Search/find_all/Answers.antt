use Rattle.std.proofs.Common.{get_or}
use Rattle.std.proofs.lemmas.List.{take_more}
use Rattle.graph_search.proofs.SearchLemmas.{finds-more}
use Rattle.graph_search.proofs.search.Search.find_all.Goals as goal

pub loop-node-preserved : goal.loop-node-preserved
loop-node-preserved c =
    let i = c.loop-node.node-index in
    let more = take_more c.args.nodes.now i 0 c.loop-node-test.true in
    rw more (finds-more _ (get_or c.args.nodes.now i 0) c.args.self.now c.loop-node.self c.find.new.self c.loop-node.invariant c.in_ok-find.ensures)
