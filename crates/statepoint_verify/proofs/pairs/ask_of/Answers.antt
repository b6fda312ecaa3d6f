use Rattle.std.proofs.Common.{arith}
use Rattle.statepoint_verify.proofs.JudgeLemmas.{at_low}
use Rattle.statepoint_verify.proofs.pairs.ask_of.Goals as goal

pub overflow_cast-result-2 : goal.overflow_cast-result-2
overflow_cast-result-2 c =
    omega (arith, at_low c.args.func.now.content c.args.pair.now c.requires, c.blocks-blocks.ensures.small.few_instructions)
