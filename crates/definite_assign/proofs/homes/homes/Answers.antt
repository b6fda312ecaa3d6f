use Rattle.std.proofs.Common.{arith}
use Rattle.definite_assign.proofs.TextLemmas.{text_within, block_read}
use Rattle.definite_assign.proofs.homes.homes.Goals as goal

pub overflow_add-place : goal.overflow_add-place
overflow_add-place c =
    let block = block_read c.args.func.now.content c.blocks-block-items.result.now c.loop-number.number c.block-item.result c.blocks-block-items.ensures.value c.loop-number-test.true c.block-item.is in
    let within = text_within c.args.func.now.content c.loop-number.number c.block-item.result block in
    omega (arith, within, c.loop-number.invariant.place, c.insts.ensures.value, c.blocks-block-items.ensures.small.few_instructions)
