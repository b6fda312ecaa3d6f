use Rattle.std.proofs.Common.{arith}
use Rattle.frame_slots.proofs.BlockLemmas.{bundles_step, length_step}
use Rattle.frame_slots.proofs.bundles.bundles_of.Goals as goal

pub loop-block-preserved : goal.loop-block-preserved
loop-block-preserved c =
    let blocks = c.blocks-block-items.result.now in
    let insts = c.insts-insts.result.now in
    let below = c.loop-block-test.true in
    let more = length_step blocks c.loop-block.block-index c.block-item.result insts below c.block-item.is c.insts-insts.ensures.value in (
      bundles_step _ _ _ c.loop-block.place blocks c.loop-block.block-index c.block-item.result insts below c.block-item.is c.insts-insts.ensures.value
          c.in_ok-add_bundles.ensures c.loop-block.invariant.0,
      omega (arith, c.loop-block.invariant.1, more),
    )
