use Rattle.statepoint_verify.specs.Least.{IsLeastOf, IsFaultBelow}
use Rattle.statepoint_verify.proofs.verdict.least_of_all.Given as goal

abbrev pub invariant-loop-func : goal.invariant-loop-func
invariant-loop-func l = IsLeastOf (IsFaultBelow l.target l.func-index) l.least
