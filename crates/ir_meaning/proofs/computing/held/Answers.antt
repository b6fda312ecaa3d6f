use Rattle.std.proofs.Common.{ap, ◌∙◌}
use Rattle.object_store.specs.Words.{datum}
use Rattle.ir_meaning.proofs.WordLemmas.{word_is}
use Rattle.ir_meaning.proofs.computing.held.Goals as goal

pub returns : goal.returns
returns c = ap datum c.word.ensures ∙ word_is c.args.registers.now c.args.operand
