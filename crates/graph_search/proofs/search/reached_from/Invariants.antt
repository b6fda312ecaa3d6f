use Rattle.std.proofs.Common.{◌+◌, ◌-◌, length, not}
use Rattle.std.specs.List.{count_by}
use Rattle.graph_search.specs.Searches.{IsSearch}
use Rattle.graph_search.proofs.SearchLemmas.{IsFollowed}
use Rattle.graph_search.proofs.search.reached_from.Given as goal

abbrev pub invariant-loop-done : goal.invariant-loop-done
invariant-loop-done g l = record {
  search : IsSearch (g.E.Edges.rows l.edges) l.starts l.search;
  followed : IsFollowed (g.E.Edges.rows l.edges) l.search l.done;
}

abbrev pub decreases-loop-done : goal.decreases-loop-done
decreases-loop-done g l = count_by not l.search.marks.items + (length l.search.found.items - l.done)
