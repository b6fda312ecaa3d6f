use Rattle.std.proofs.Common.{arith}
use Rattle.frame_slots.proofs.BlockLemmas.{length_step}
use Rattle.stackmap_write.proofs.RecordLemmas.{records_step, put_step, fits_front, fits_back}
use Rattle.stackmap_write.proofs.records.put_records.Goals as goal

pub put_block-requires-clause-fit : goal.put_block-requires-clause-fit
put_block-requires-clause-fit c =
    let split = records_step c.args.constants.now.keys c.loop-block.place c.blocks-block-items.result.now c.loop-block.block-index c.block-item.result c.insts-insts.result.now
    c.loop-block-test.true c.block-item.is c.insts-insts.ensures.value (rw (c.insts-insts.ensures.value) c.insts-insts.ensures.ends) in
    fits_front _ _ _ _ split c.loop-block.invariant.2

pub loop-block-preserved : goal.loop-block-preserved
loop-block-preserved c =
    let blocks = c.blocks-block-items.result.now in
    let insts = c.insts-insts.result.now in
    let split = records_step c.args.constants.now.keys c.loop-block.place blocks c.loop-block.block-index c.block-item.result insts
    c.loop-block-test.true c.block-item.is c.insts-insts.ensures.value (rw (c.insts-insts.ensures.value) c.insts-insts.ensures.ends) in
    let more = length_step blocks c.loop-block.block-index c.block-item.result insts c.loop-block-test.true c.block-item.is c.insts-insts.ensures.value in (
      put_step c.loop-block.bytes.items _ _ _ _ _ split c.in_ok-put_block.ensures c.loop-block.invariant.0,
      omega (arith, c.loop-block.invariant.1, more),
      fits_back _ _ _ _ split c.loop-block.invariant.2,
    )
