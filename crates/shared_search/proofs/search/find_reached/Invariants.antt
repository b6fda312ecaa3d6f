use Rattle.std.proofs.Common.{◌≡◌, ◌+◌, ◌-◌, length, not}
use Rattle.std.specs.List.{count_by}
use Rattle.shared_search.specs.Searches.{IsSearch}
use Rattle.shared_search.proofs.SearchLemmas.{IsFollowed}
use Rattle.shared_search.proofs.search.find_reached.Given as goal

abbrev pub invariant-loop-done : goal.invariant-loop-done
invariant-loop-done g l = record {
  whole : length l.marks.items ≡ length l.initial.marks.items;
  search : IsSearch (g.E.Edges.rows l.edges) l.starts l.marks.items l.found.items;
  followed : IsFollowed (g.E.Edges.rows l.edges) l.marks.items l.found.items l.done;
}

abbrev pub decreases-loop-done : goal.decreases-loop-done
decreases-loop-done g l = count_by not l.marks.items + (length l.found.items - l.done)
