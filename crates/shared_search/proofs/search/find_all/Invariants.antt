use Rattle.std.proofs.Common.{take}
use Rattle.shared_search.specs.Searches.{FindsAll}
use Rattle.shared_search.proofs.search.find_all.Given as goal

abbrev pub invariant-loop-node : goal.invariant-loop-node
invariant-loop-node l = FindsAll (take l.node-index l.nodes) l.initial.marks.items l.marks.items l.initial.found.items l.found.items
