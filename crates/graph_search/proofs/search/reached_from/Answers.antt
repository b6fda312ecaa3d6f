use Rattle.std.proofs.Common.{◌∙◌, length, ap, false, arith}
use Rattle.std.proofs.lemmas.List.{length-replicate}
use Rattle.std.proofs.lemmas.Option.{slice_get_read, slice_get_within}
use Rattle.graph_search.proofs.SearchLemmas.{starts-inside, targets-inside, search-start, search-more, followed-none, followed-more, marks-reached}
use Rattle.graph_search.proofs.search.reached_from.Goals as goal

pub find_all-requires : goal.find_all-requires
find_all-requires g c =
    let rows = g.E.Edges.rows c.args.edges.now in
    let marks = c.in_ok-search.search.marks.items in
    starts-inside rows c.args.starts.now marks c.requires.inside
    (ap length c.in_ok-search.ensures.marks ∙ length-replicate c.node_count.result false ∙ c.node_count.ensures)

pub loop-done-init : goal.loop-done-init
loop-done-init g c = record {
  search = search-start (g.E.Edges.rows c.args.edges.now) c.args.starts.now c.in_ok-search.search c.find_all.new.self c.node_count.result
      c.node_count.ensures c.in_ok-search.ensures.marks c.in_ok-search.ensures.found c.in_ok-find_all.ensures;
  followed = followed-none (g.E.Edges.rows c.args.edges.now) _;
}

pub follow-requires-clause-node : goal.follow-requires-clause-node
follow-requires-clause-node g c =
    let stands = slice_get_read c.loop-done.search.found.items (length c.loop-done.search.found.items) c.loop-done.done c.index-node.result.now (λ _. length c.loop-done.search.found.items) (omega arith) c.index-node.ensures in
    let marked = c.loop-done.invariant.search.marked c.loop-done.done c.index-node.result.now stands in
    let within = slice_get_within c.loop-done.search.marks.items c.index-node.result.now _ marked in
    omega (arith, within, c.loop-done.invariant.search.whole)

pub follow-requires-clause-inside : goal.follow-requires-clause-inside
follow-requires-clause-inside g c =
    targets-inside (g.E.Edges.rows c.args.edges.now) c.args.starts.now c.index-node.result.now c.loop-done.search.marks.items c.requires.inside
    c.loop-done.invariant.search.whole

pub loop-done-smaller : goal.loop-done-smaller
loop-done-smaller g c =
    let stands = slice_get_read c.loop-done.search.found.items (length c.loop-done.search.found.items) c.loop-done.done c.index-node.result.now (λ _. length c.loop-done.search.found.items) (omega arith) c.index-node.ensures in
    let there = slice_get_within c.follow.new.self.found.items c.loop-done.done c.index-node.result.now (c.in_ok-follow.ensures.front c.loop-done.done c.index-node.result.now stands) in
    omega (arith, there, c.in_ok-follow.ensures.balance)

pub loop-done-preserved : goal.loop-done-preserved
loop-done-preserved g c =
    let rows = g.E.Edges.rows c.args.edges.now in
    let stands = slice_get_read c.loop-done.search.found.items (length c.loop-done.search.found.items) c.loop-done.done c.index-node.result.now (λ _. length c.loop-done.search.found.items) (omega arith) c.index-node.ensures in
    let marked = c.loop-done.invariant.search.marked c.loop-done.done c.index-node.result.now stands in
    record {
      search = search-more rows c.args.starts.now c.loop-done.search c.follow.new.self c.index-node.result.now c.loop-done.invariant.search marked c.in_ok-follow.ensures;
      followed = followed-more rows c.loop-done.search c.follow.new.self c.loop-done.done c.index-node.result.now c.loop-done.invariant.followed c.in_ok-follow.ensures stands;
    }

pub returns : goal.returns
returns g c = record {
  marks = marks-reached (g.E.Edges.rows c.args.edges.now) c.args.starts.now c.loop-done.search c.loop-done.done
      c.loop-done.invariant.search c.loop-done.invariant.followed (omega arith);
}
