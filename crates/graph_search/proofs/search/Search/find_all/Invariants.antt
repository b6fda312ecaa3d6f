use Rattle.std.proofs.Common.{take}
use Rattle.graph_search.specs.Searches.{FindsAll}
use Rattle.graph_search.proofs.search.Search.find_all.Given as goal

abbrev pub invariant-loop-node : goal.invariant-loop-node
invariant-loop-node l = FindsAll (take l.node-index l.nodes) l.initial.self l.self
