use Rattle.std.proofs.Common.{◌∙◌, ap, arith, get_or, replicate, false}
use Rattle.std.proofs.lemmas.List.{length-set}
use Rattle.std.proofs.lemmas.Option.{slice_get-get_or}
use Rattle.shared_search.proofs.SearchLemmas.{left_more, none_left}
use Rattle.shared_search.proofs.search.clear.Goals as goal

pub loop-node-preserved : goal.loop-node-preserved
loop-node-preserved c =
    let i = c.loop-node.node-index in
    let node = get_or c.args.nodes.now i 0 in
    record {
      whole = length-set c.loop-node.marks.items node false ∙ c.loop-node.invariant.whole;
      left = left_more c.args.nodes.now c.loop-node.marks.items i node (slice_get-get_or c.args.nodes.now i 0 c.loop-node-test.true) c.loop-node.invariant.left;
    }

pub returns : goal.returns
returns c =
    none_left c.args.nodes.now c.loop-node.marks.items c.loop-node.node-index (omega (arith, c.loop-node-test.false)) c.loop-node.invariant.left
    ∙ ap (λ n. replicate n false) c.loop-node.invariant.whole
