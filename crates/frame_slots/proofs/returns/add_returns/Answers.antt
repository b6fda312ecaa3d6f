use Rattle.std.proofs.Common.{◌∙◌, ◌+◌, ◌++◌, ap, arith, drop, length}
use Rattle.ir_ast.specs.Funcs.{instructions_of}
use Rattle.frame_forms.specs.CodeAddresses.{returns_from}
use Rattle.frame_slots.proofs.BlockLemmas.{returns_step, length_step}
use Rattle.frame_slots.proofs.returns.add_returns.Goals as goal

pub loop-block-preserved : goal.loop-block-preserved
loop-block-preserved c =
    let blocks = c.blocks-block-items.result.now in
    let insts = c.insts-insts.result.now in
    let below = c.loop-block-test.true in
    let step = returns_step c.loop-block.returns.items _ c.loop-block.place blocks c.loop-block.block-index c.block-item.result insts below c.block-item.is c.insts-insts.ensures.value
    (rw (c.insts-insts.ensures.value) c.insts-insts.ensures.ends) c.loop-block.invariant.0 in
    let more = length_step blocks c.loop-block.block-index c.block-item.result insts below c.block-item.is c.insts-insts.ensures.value in (
      ap (λ items. items ++ returns_from (c.loop-block.place + length insts) (instructions_of (drop (c.loop-block.block-index + 1) blocks))) c.in_ok-add_block.ensures ∙ step,
      omega (arith, c.loop-block.invariant.1, more),
    )
