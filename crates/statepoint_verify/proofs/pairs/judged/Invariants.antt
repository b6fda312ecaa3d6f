use Rattle.statepoint_verify.specs.Judged.{AreJudged}
use Rattle.statepoint_verify.proofs.pairs.judged.Given as goal

abbrev pub invariant-loop-number : goal.invariant-loop-number
invariant-loop-number l = AreJudged l.func.content l.used l.number l.marks.items
