use Rattle.std.proofs.Common.{◌≡◌, ◌∙◌, List, length, arith, sym, ap, subst}
use Rattle.std.specs.Prelude.{map, slice_get, Some}
use Rattle.sp_ids.specs.declared.ids.BlockId.{BlockId}
use Rattle.ir_ast.specs.Blocks.{BasicBlock}
use Rattle.ir_verify.specs.Phis.{AddsEdges}
use Rattle.ir_verify.proofs.EdgeLemmas.{blank-edges, edges-more, edges-all}
use Rattle.ir_verify.proofs.phis.sources.Goals as goal
use Rattle.list_laws.proofs.Places.{get_read}

pub loop-from-init : goal.loop-from-init
loop-from-init c =
    blank-edges c.args.func.now.content (map (λ list. list.items) c.in_ok-into.into.items) _ c.in_ok-into.ensures (ap length c.blocks-blocks.ensures.value)

pub loop-from-preserved : goal.loop-from-preserved
loop-from-preserved c =
    let func = c.args.func.now.content in
    let from = c.loop-from.from in
    let block = c.index-blocks-from.result in
    let old = map (λ list. list.items) c.loop-from.into.items in
    let new = map (λ list. list.items) c.add_edges.new.into.items in
    let at : slice_get func.blocks from ≡ Some block
    = ap (λ (bs : List BasicBlock). slice_get bs from) (sym c.blocks-blocks.ensures.value)
    ∙ get_read c.blocks-blocks.result.now from block c.loop-from-test.true c.index-blocks-from.is in
    edges-more func from block old new at c.loop-from.invariant
    (subst (λ (labels : List BlockId). AddsEdges from labels old new) c.edges_of.ensures c.in_ok-add_edges.ensures)

pub returns : goal.returns
returns c =
    let size : length c.blocks-blocks.result.now ≡ length c.args.func.now.content.blocks = ap length c.blocks-blocks.ensures.value in
    edges-all c.args.func.now.content c.loop-from.from (map (λ list. list.items) c.loop-from.into.items) (omega (arith, size)) c.loop-from.invariant
