use Rattle.stackmap_write.proofs.RecordLemmas.{block_numbers}
use Rattle.stackmap_write.proofs.constants.add_function.Goals as goal

pub loop-block-preserved : goal.loop-block-preserved
loop-block-preserved c =
    block_numbers _ _ _ c.blocks-block-items.result.now c.loop-block.block-index c.block-item.result c.insts-insts.result.now
    c.loop-block-test.true c.block-item.is c.insts-insts.ensures.value c.in_ok-add_block.ensures c.loop-block.invariant
