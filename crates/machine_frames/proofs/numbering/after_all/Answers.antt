use Rattle.std.proofs.Common.{◌<◌, length, arith}
use Rattle.flat_code.proofs.RegisterLemmas.{after_more}
use Rattle.machine_frames.proofs.numbering.after_all.Goals as goal

pub loop-inst-preserved : goal.loop-inst-preserved
loop-inst-preserved c =
    let below : c.loop-inst.inst-index < length c.args.insts.now = omega arith in
    after_more c.args.first c.loop-inst.next _ c.args.insts.now c.loop-inst.inst-index c.inst-item.result below c.inst-item.is c.in_ok-after.ensures c.loop-inst.invariant
