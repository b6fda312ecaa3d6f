use Rattle.statepoint_verify.proofs.LeastLemmas.{AreStartsUpTo}
use Rattle.statepoint_verify.proofs.least.starts_of.Given as goal

abbrev pub invariant-loop-block : goal.invariant-loop-block
invariant-loop-block l = AreStartsUpTo l.func.content l.block-index l.next l.starts.items
