use Rattle.std.proofs.Common.{sym, subst}
use Rattle.pair_facts.proofs.OwnLaws.{Own, own_along}
use Rattle.pair_facts.proofs.laws.bases_are_own.Goals as goal

pub returns : goal.returns
returns c = λ func block place pairs operand value at.
    let own : Own pairs = subst Own (sym at.is) (own_along func block place at.front at.arrives) in
    own operand value
