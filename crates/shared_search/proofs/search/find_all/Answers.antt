use Rattle.std.proofs.Common.{get_or}
use Rattle.std.proofs.lemmas.List.{take_more}
use Rattle.shared_search.proofs.SearchLemmas.{finds_more}
use Rattle.shared_search.proofs.search.find_all.Goals as goal

pub loop-node-preserved : goal.loop-node-preserved
loop-node-preserved c =
    let i = c.loop-node.node-index in
    let more = take_more c.args.nodes.now i 0 c.loop-node-test.true in
    rw more (finds_more _ (get_or c.args.nodes.now i 0) _ _ _ _ _ _ c.loop-node.invariant c.in_ok-find.ensures)
