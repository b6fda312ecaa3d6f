use Rattle.std.proofs.Common.{◌≡◌, ◌∙◌, ℕ, map, [], ap, sym}
use borrow.Author.Count.{below_more}
use Rattle.sp_ids.specs.declared.ids.BlockId.{BlockId}
use Rattle.ir_cfg.specs.Graphs.{Graph, succs_of}
use Rattle.rewriting_forms.specs.Numbered.{succs}
use Rattle.live_sets.proofs.ends.has_edge.Goals as goal

pub loop-number-preserved : goal.loop-number-preserved
loop-number-preserved c =
    let func = c.args.func.now.content in
    let number = c.loop-number.number in
    let same : map (λ (block : BlockId). block.0) c.succs.result.now ≡ succs func number =
    ap (map (λ (block : BlockId). block.0)) (c.succs.ensures ∙ ap (λ (graph : Graph). succs_of graph number) c.requires) in
    below_more (λ (b : ℕ). succs func b ≡ []) number c.loop-number.invariant
    (sym same ∙ ap (map (λ (block : BlockId). block.0)) (c.has_any.ensures c.if-has_any.false))
