use Rattle.used_pairs.specs.Lists.{AreUsed}
use Rattle.used_pairs.proofs.uses.used_pairs.Given as goal

abbrev pub invariant-loop-number : goal.invariant-loop-number
invariant-loop-number l = AreUsed l.func.content l.number 0 l.used.items
