use Rattle.stackmap_write.specs.Constants.{large_in}
use Rattle.stackmap_write.proofs.ConstantLaws.{numbers_put}
use Rattle.stackmap_write.proofs.constants.add_block.Goals as goal

pub loop-inst-preserved : goal.loop-inst-preserved
loop-inst-preserved c =
    numbers_put large_in _ _ _ c.args.insts.now c.loop-inst.inst-index c.inst-item.result c.loop-inst-test.true c.inst-item.is c.in_ok-add_inst.ensures c.loop-inst.invariant
