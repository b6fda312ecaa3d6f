use Rattle.std.proofs.Common.{◌∙◌, ap, take, ◌++◌, ◌∷◌, [], arith}
use Rattle.std.proofs.lemmas.List.{take_more}
use Rattle.std.proofs.lemmas.Option.{get_or_from_slice_get}
use Rattle.graph_search.specs.Edges.{targets_of}
use Rattle.graph_search.proofs.SearchLemmas.{finds-more}
use Rattle.graph_search.proofs.search.Search.follow.Goals as goal

pub loop-number-preserved : goal.loop-number-preserved
loop-number-preserved g c =
    let row = targets_of (g.E.Edges.rows c.args.edges.now) c.args.node in
    let i = c.loop-number.number in
    let to = c.target.result in
    let here = get_or_from_slice_get row i to to c.target.ensures in
    let more = take_more row i to (omega (arith, c.degree-number-end.ensures, c.loop-number-test.true)) ∙ ap (λ x. take i row ++ x ∷ []) here in
    rw more (finds-more (take i row) to c.args.self.now c.loop-number.self c.find.new.self c.loop-number.invariant c.in_ok-find.ensures)
