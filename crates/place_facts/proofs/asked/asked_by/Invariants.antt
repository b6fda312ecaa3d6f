use Rattle.place_facts.specs.Asked.{KnowsAsks}
use Rattle.place_facts.proofs.asked.asked_by.Given as goal

abbrev pub invariant-loop-question : goal.invariant-loop-question
invariant-loop-question l = KnowsAsks l.func.content l.questions l.question-index l.asked
