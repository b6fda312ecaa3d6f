use Rattle.std.proofs.Common.{take}
use Rattle.graph_search.specs.Edges.{targets_of}
use Rattle.shared_search.specs.Searches.{FindsAll}
use Rattle.shared_search.proofs.search.follow.Given as goal

abbrev pub invariant-loop-number : goal.invariant-loop-number
invariant-loop-number g l =
    FindsAll (take l.number (targets_of (g.E.Edges.rows l.edges) l.node)) l.initial.marks.items l.marks.items l.initial.found.items l.found.items
