use Rattle.std.proofs.Common.{◌≡◌, ◌∙◌, ℕ, List, map, sym, ap, subst, slice_get, length, arith}
use Rattle.std.specs.Prelude.{slice_index_or}
use Rattle.std.proofs.lemmas.List.{length-map}
use Rattle.std.proofs.lemmas.Option.{slice_get-get_or}
use Rattle.list_laws.proofs.Places.{get_map}
use Rattle.sp_ids.specs.declared.ids.BlockId.{BlockId}
use Rattle.ir_cfg.specs.Graphs.{Graph, graph_of, preds_of, block_at}
use Rattle.base_facts.specs.Closing.{AskedBefore}
use Rattle.base_facts.proofs.ClosingLemmas.{before_more, front_closed}
use Rattle.base_facts.proofs.closing.ask_edges.Goals as goal
use Rattle.ir_cfg.proofs.PredLaws.{pred_of_edge, edge_of_pred}

pub ask_if_reached-requires-clause-edge : goal.ask_if_reached-requires-clause-edge
ask_if_reached-requires-clause-edge c =
    let graph = graph_of c.args.func.now.content in
    let items = c.preds-pred-items.result.now in
    let none : BlockId = record { 0 = 0 } in
    let preds : items ≡ preds_of graph c.args.fact.block =
    c.preds-pred-items.ensures ∙ ap (λ (g : Graph). preds_of g c.block_id.result.0) c.requires.edges ∙ ap (preds_of graph) c.block_id.ensures in
    edge_of_pred graph (slice_index_or items c.loop-pred.pred-index none).0 c.args.fact.block c.loop-pred.pred-index
    (ap (λ (xs : List BlockId). slice_get xs c.loop-pred.pred-index) (sym preds) ∙ slice_get-get_or items c.loop-pred.pred-index none c.loop-pred-test.true)

pub loop-pred-preserved : goal.loop-pred-preserved
loop-pred-preserved c =
    let func = c.args.func.now.content in
    let items = c.preds-pred-items.result.now in
    let none : BlockId = record { 0 = 0 } in
    let pred = slice_index_or items c.loop-pred.pred-index none in
    before_more func c.args.number c.args.fact (map (λ (label : BlockId). label.0) items) c.loop-pred.pred-index pred.0 c.args.asked.now c.loop-pred.asked c.ask_if_reached.new.asked
    (get_map (λ (label : BlockId). label.0) items c.loop-pred.pred-index pred (slice_get-get_or items c.loop-pred.pred-index none c.loop-pred-test.true))
    c.loop-pred.invariant c.in_ok-ask_if_reached.ensures

pub returns : goal.returns
returns c =
    let func = c.args.func.now.content in
    let graph = graph_of func in
    let items = c.preds-pred-items.result.now in
    let numbers = map (λ (label : BlockId). label.0) items in
    let preds : items ≡ preds_of graph c.args.fact.block =
    c.preds-pred-items.ensures ∙ ap (λ (g : Graph). preds_of g c.block_id.result.0) c.requires.edges ∙ ap (preds_of graph) c.block_id.ensures in
    let all : c.loop-pred.pred-index ≡ length numbers = omega (arith, length-map items (λ (label : BlockId). label.0)) in
    front_closed func c.args.number c.args.fact numbers c.args.asked.now c.loop-pred.asked c.requires.front
    c.requires.entry
    (λ from edge.
    let pred = pred_of_edge graph from c.args.fact.block edge in
    (pred.0, get_map (λ (label : BlockId). label.0) items pred.0 (block_at from) (ap (λ (xs : List BlockId). slice_get xs pred.0) preds ∙ pred.1)))
    (subst (λ (n : ℕ). AskedBefore func c.args.number c.args.fact numbers n c.args.asked.now c.loop-pred.asked) all c.loop-pred.invariant)
