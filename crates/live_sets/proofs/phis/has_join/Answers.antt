use Rattle.std.proofs.Common.{◌≡◌, ◌∙◌, ℕ, map, false, ap, sym}
use borrow.Author.Count.{below_more}
use Rattle.sp_ids.specs.declared.ids.BlockId.{BlockId}
use Rattle.ir_cfg.specs.Graphs.{Graph, preds_of}
use Rattle.rewriting_forms.specs.Numbered.{preds}
use Rattle.rewriting_forms.specs.Names.{is_many}
use Rattle.live_sets.proofs.phis.has_join.Goals as goal

pub loop-number-preserved : goal.loop-number-preserved
loop-number-preserved c =
    let func = c.args.func.now.content in
    let number = c.loop-number.number in
    let same : map (λ (block : BlockId). block.0) c.preds.result.now ≡ preds func number =
    ap (map (λ (block : BlockId). block.0)) (c.preds.ensures ∙ ap (λ (graph : Graph). preds_of graph number) c.requires) in
    below_more (λ (b : ℕ). is_many (preds func b) ≡ false) number c.loop-number.invariant
    (sym (ap is_many same) ∙ sym c.are_many.ensures ∙ c.if-are_many.false)
