use Rattle.base_facts.specs.Closing.{ClosedBelow}
use Rattle.base_facts.proofs.closing.close.Given as goal

abbrev pub invariant-loop-number : goal.invariant-loop-number
invariant-loop-number l = ClosedBelow l.func.content l.number l.initial.asked l.asked
