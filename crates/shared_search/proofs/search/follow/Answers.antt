use Rattle.std.proofs.Common.{◌∙◌, ap, take, ◌++◌, ◌∷◌, [], arith}
use Rattle.std.proofs.lemmas.List.{take_more}
use Rattle.std.proofs.lemmas.Option.{get_or_from_slice_get}
use Rattle.graph_search.specs.Edges.{targets_of}
use Rattle.shared_search.proofs.SearchLemmas.{finds_more}
use Rattle.shared_search.proofs.search.follow.Goals as goal

pub loop-number-preserved : goal.loop-number-preserved
loop-number-preserved g c =
    let row = targets_of (g.E.Edges.rows c.args.edges.now) c.args.node in
    let i = c.loop-number.number in
    let to = c.target.result in
    let here = get_or_from_slice_get row i to to c.target.ensures in
    let more = take_more row i to (omega (arith, c.degree-number-end.ensures, c.loop-number-test.true)) ∙ ap (λ x. take i row ++ x ∷ []) here in
    rw more (finds_more (take i row) to _ _ _ _ _ _ c.loop-number.invariant c.in_ok-find.ensures)
