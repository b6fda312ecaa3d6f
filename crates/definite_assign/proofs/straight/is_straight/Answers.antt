use Rattle.std.proofs.Common.{length, ap, arith}
use Rattle.definite_assign.proofs.TextLemmas.{block_read}
use Rattle.definite_assign.proofs.StraightLemmas.{straight_of}
use Rattle.definite_assign.proofs.straight.is_straight.Goals as goal

pub returns : goal.returns
returns c = λ is.
    let func = c.args.func.now.content in
    let blocks = c.blocks-blocks.result.now in
    let same = c.blocks-blocks.ensures.value in
    straight_of func c.index-blocks-0.result c.insts.result.now (length c.args-2.result.now) (omega (arith, c.if-blocks-ne1.false, ap length same))
    (block_read func blocks 0 c.index-blocks-0.result same (omega (arith, c.if-blocks-ne1.false)) c.index-blocks-0.is)
    c.insts.ensures.value (ap length c.args-2.ensures.value) (c.are_known.ensures is)
