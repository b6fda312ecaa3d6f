use Rattle.std.proofs.Common.{arith}
use Rattle.definite_assign.proofs.TextLemmas.{place_within, stands_read}
use Rattle.definite_assign.proofs.uses.add_block.Goals as goal

pub overflow_add-start : goal.overflow_add-start
overflow_add-start c =
    let stands = stands_read c.args.func.now.content c.blocks-2.result.now c.args.number c.index-blocks-number.result c.insts-inst-items.result.now c.loop-index.index c.inst-item.result
    c.blocks-2.ensures.value c.requires.number c.index-blocks-number.is c.insts-inst-items.ensures.value c.loop-index-test.true c.inst-item.is in
    let within = place_within c.args.func.now.content c.args.number c.loop-index.index c.inst-item.result stands in
    omega (arith, within, c.requires.start, c.blocks-2.ensures.small.few_instructions)

pub add_line-requires-clause-stands : goal.add_line-requires-clause-stands
add_line-requires-clause-stands c =
    stands_read c.args.func.now.content c.blocks-2.result.now c.args.number c.index-blocks-number.result c.insts-inst-items.result.now c.loop-index.index c.inst-item.result
    c.blocks-2.ensures.value c.requires.number c.index-blocks-number.is c.insts-inst-items.ensures.value c.loop-index-test.true c.inst-item.is
