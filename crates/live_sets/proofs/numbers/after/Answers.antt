use Rattle.std.proofs.Common.{◌∙◌, ap, arith, take, sym}
use Rattle.object_meaning.specs.Lines.{after_all, following}
use Rattle.live_sets.proofs.numbers.after.Goals as goal
use Rattle.object_meaning.proofs.LineLaws.{following_few, after_push}
use Rattle.list_laws.proofs.Places.{take_item}

pub loop-inst-preserved : goal.loop-inst-preserved
loop-inst-preserved c =
    let insts = c.args.insts.now in
    let at = c.loop-inst.inst-index in
    let inst = c.inst-item.result in
    let more = take_item insts at inst c.loop-inst-test.true c.inst-item.is in
    let step = c.following-next.ensures in
    let one = following_few c.loop-inst.next inst in
    record {
      is = step ∙ ap (λ n. following n inst) c.loop-inst.invariant.is ∙ sym (ap (after_all c.args.first) more ∙ after_push c.args.first (take at insts) inst);
      small = omega (arith, step, one, c.loop-inst.invariant.small);
    }
