use Rattle.std.proofs.Common.{arith}
use Rattle.stackmap_write.proofs.SizeLemmas.{block_sizes}
use Rattle.stackmap_write.proofs.sizes.records_size.Goals as goal

pub block_size-size-requires : goal.block_size-size-requires
block_size-size-requires c =
    let split = block_sizes c.blocks-block-items.result.now c.loop-block.block-index c.block-item.result c.insts-insts.result.now
    c.loop-block-test.true c.block-item.is c.insts-insts.ensures.value (rw (c.insts-insts.ensures.value) c.insts-insts.ensures.ends) in
    omega (arith, c.loop-block.invariant, split, c.requires)

pub overflow_add-size : goal.overflow_add-size
overflow_add-size c =
    let split = block_sizes c.blocks-block-items.result.now c.loop-block.block-index c.block-item.result c.insts-insts.result.now
    c.loop-block-test.true c.block-item.is c.insts-insts.ensures.value (rw (c.insts-insts.ensures.value) c.insts-insts.ensures.ends) in
    omega (arith, c.loop-block.invariant, split, c.requires, c.block_size-size.ensures)

pub loop-block-preserved : goal.loop-block-preserved
loop-block-preserved c =
    let split = block_sizes c.blocks-block-items.result.now c.loop-block.block-index c.block-item.result c.insts-insts.result.now
    c.loop-block-test.true c.block-item.is c.insts-insts.ensures.value (rw (c.insts-insts.ensures.value) c.insts-insts.ensures.ends) in
    omega (arith, c.loop-block.invariant, split, c.block_size-size.ensures)
