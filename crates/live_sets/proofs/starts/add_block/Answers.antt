use Rattle.std.proofs.Common.{◌∙◌, ap, sym, ℕ, ◌++◌, take, arith}
use Rattle.object_meaning.specs.Lines.{following, after_all}
use Rattle.live_sets.specs.Starts.{line_adds, block_adds}
use Rattle.live_sets.proofs.StartLemmas.{grown_both, block_adds_push}
use Rattle.live_sets.proofs.starts.add_block.Goals as goal
use Rattle.object_meaning.proofs.LineLaws.{following_few, after_push}
use Rattle.list_laws.proofs.Places.{take_item}

pub loop-inst-preserved : goal.loop-inst-preserved
loop-inst-preserved c =
    let marks = c.args.marks.now in
    let bases = c.args.bases.now in
    let insts = c.args.insts.now in
    let at = c.loop-inst.inst-index in
    let inst = c.inst-item.result in
    let more = take_item insts at inst c.loop-inst-test.true c.inst-item.is in
    let step = c.following-next.ensures in
    let one = following_few c.loop-inst.next inst in
    record {
      grown = grown_both c.args.wanted.now c.args.starts.now.items c.loop-inst.starts.items c.add_line.new.starts.items (λ (v : ℕ). block_adds marks bases c.args.node c.args.first c.args.first v (take at insts))
          (λ (v : ℕ). line_adds marks bases (record { node = c.args.node; first = c.args.first; next = c.loop-inst.next }) v inst) _ c.loop-inst.invariant.grown c.in_ok-add_line.ensures
          (λ v. ap (block_adds marks bases c.args.node c.args.first c.args.first v) more ∙ block_adds_push marks bases c.args.node c.args.first c.args.first v (take at insts) inst
          ∙ ap (λ (n : ℕ). block_adds marks bases c.args.node c.args.first c.args.first v (take at insts) ++ line_adds marks bases (record { node = c.args.node; first = c.args.first; next = n }) v inst) (sym c.loop-inst.invariant.next));
      next = step ∙ ap (λ (n : ℕ). following n inst) c.loop-inst.invariant.next ∙ sym (ap (after_all c.args.first) more ∙ after_push c.args.first (take at insts) inst);
      small = omega (arith, step, one, c.loop-inst.invariant.small);
    }
