use Rattle.ir_types.proofs.FirstLemmas.{DefiniteUpTo}
use Rattle.ir_types.proofs.paths.first_missed.Given as goal

abbrev pub invariant-loop-func : goal.invariant-loop-func
invariant-loop-func l = DefiniteUpTo l.whole.content.funcs l.func-index
