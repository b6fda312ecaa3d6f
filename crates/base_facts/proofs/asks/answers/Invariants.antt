use Rattle.base_facts.specs.Found.{AreFound}
use Rattle.base_facts.proofs.asks.answers.Given as goal

abbrev pub invariant-loop-ask : goal.invariant-loop-ask
invariant-loop-ask l = AreFound l.func.content l.asked l.asks l.ask-index l.found.items
