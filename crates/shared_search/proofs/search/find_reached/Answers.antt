use Rattle.std.proofs.Common.{◌∙◌, length, ap, refl, false, arith, subst, List, ℕ}
use Rattle.std.proofs.lemmas.List.{length-replicate}
use Rattle.std.proofs.lemmas.Option.{slice_get_read, slice_get_within}
use Rattle.shared_search.specs.Searches.{FindsAll}
use Rattle.shared_search.proofs.SearchLemmas.{search_start, search_more, followed_none, followed_more, lists_reached, found_inside}
use Rattle.shared_search.proofs.search.find_reached.Goals as goal
use Rattle.graph_search.proofs.SearchLemmas.{targets-inside as targets_inside, starts-inside as starts_inside}

pub find_all-requires : goal.find_all-requires
find_all-requires g c =
    let rows = g.E.Edges.rows c.args.edges.now in
    starts_inside rows c.args.starts.now c.args.marks.now.items c.requires.inside (ap length c.requires.clear ∙ length-replicate (length rows) false)

pub loop-done-init : goal.loop-done-init
loop-done-init g c = record {
  whole = refl;
  search = search_start (g.E.Edges.rows c.args.edges.now) c.args.starts.now c.args.marks.now.items c.find_all.new.marks.items c.find_all.new.found.items
      c.requires.clear (subst (λ (f : List ℕ). FindsAll c.args.starts.now c.args.marks.now.items c.find_all.new.marks.items f c.find_all.new.found.items) c.clear.ensures.items c.in_ok-find_all.ensures);
  followed = followed_none (g.E.Edges.rows c.args.edges.now) _ _;
}

pub follow-requires-clause-node : goal.follow-requires-clause-node
follow-requires-clause-node g c =
    let stands = slice_get_read c.loop-done.found.items (length c.loop-done.found.items) c.loop-done.done c.index-node.result.now (λ _. length c.loop-done.found.items) (omega arith) c.index-node.ensures in
    let marked = c.loop-done.invariant.search.are.marked c.loop-done.done c.index-node.result.now stands in
    let within = slice_get_within c.loop-done.marks.items c.index-node.result.now _ marked in
    omega (arith, within, c.loop-done.invariant.search.whole)

pub follow-requires-clause-inside : goal.follow-requires-clause-inside
follow-requires-clause-inside g c =
    targets_inside (g.E.Edges.rows c.args.edges.now) c.args.starts.now c.index-node.result.now c.loop-done.marks.items c.requires.inside
    c.loop-done.invariant.search.whole

pub loop-done-smaller : goal.loop-done-smaller
loop-done-smaller g c =
    let stands = slice_get_read c.loop-done.found.items (length c.loop-done.found.items) c.loop-done.done c.index-node.result.now (λ _. length c.loop-done.found.items) (omega arith) c.index-node.ensures in
    let there = slice_get_within c.follow.new.found.items c.loop-done.done c.index-node.result.now (c.in_ok-follow.ensures.front c.loop-done.done c.index-node.result.now stands) in
    omega (arith, there, c.in_ok-follow.ensures.balance)

pub loop-done-preserved : goal.loop-done-preserved
loop-done-preserved g c =
    let rows = g.E.Edges.rows c.args.edges.now in
    let stands = slice_get_read c.loop-done.found.items (length c.loop-done.found.items) c.loop-done.done c.index-node.result.now (λ _. length c.loop-done.found.items) (omega arith) c.index-node.ensures in
    let marked = c.loop-done.invariant.search.are.marked c.loop-done.done c.index-node.result.now stands in
    record {
      whole = c.in_ok-follow.ensures.whole ∙ c.loop-done.invariant.whole;
      search = search_more rows c.args.starts.now _ _ _ _ c.index-node.result.now c.loop-done.invariant.search marked c.in_ok-follow.ensures;
      followed = followed_more rows _ _ _ _ c.loop-done.done c.index-node.result.now c.loop-done.invariant.followed c.in_ok-follow.ensures stands;
    }

pub clear-requires-2-clause-inside : goal.clear-requires-2-clause-inside
clear-requires-2-clause-inside g c =
    let all = found_inside c.loop-done.marks.items c.loop-done.found.items c.loop-done.invariant.search.are in
    rw c.as_slice.ensures.value all

pub returns-clause-found : goal.returns-clause-found
returns-clause-found g c =
    lists_reached (g.E.Edges.rows c.args.edges.now) c.args.starts.now c.loop-done.marks.items c.loop-done.found.items c.loop-done.done
    c.loop-done.invariant.search c.loop-done.invariant.followed (omega (arith, c.loop-done-test.false))
