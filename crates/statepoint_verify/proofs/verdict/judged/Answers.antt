use Rattle.std.proofs.Common.{refl, subst, length}
use Rattle.statepoint_verify.specs.Least.{IsLeastOf, IsFaultBelow}
use Rattle.statepoint_verify.proofs.LeastLemmas.{verified_by, least_by}
use Rattle.statepoint_verify.proofs.verdict.judged.Goals as goal

pub returns-in-None-clause-verified : goal.returns-in-None-clause-verified
returns-in-None-clause-verified c =
    verified_by c.args.target (subst (IsLeastOf (IsFaultBelow c.args.target (length c.args.target.content.funcs))) c.in-None.is c.requires.least)

pub returns-in-Some-clause-refused : goal.returns-in-Some-clause-refused
returns-in-Some-clause-refused c =
    (refl, least_by c.args.target c.in-Some.fault (subst (IsLeastOf (IsFaultBelow c.args.target (length c.args.target.content.funcs))) c.in-Some.is c.requires.least))

pub invariant_of-result : goal.invariant_of-result
invariant_of-result c = (
  c.requires.target,
  verified_by c.args.target (subst (IsLeastOf (IsFaultBelow c.args.target (length c.args.target.content.funcs))) c.in-None.is c.requires.least),
)
