use Rattle.std.proofs.Common.{sym, subst}
use Rattle.pair_facts.specs.Lines.{lines_at}
use Rattle.pair_facts.proofs.FreshLaws.{Fresh, pairs_sound, arrives_sound}
use Rattle.pair_facts.proofs.laws.fresh_with_base.Goals as goal

pub returns : goal.returns
returns c = λ func block place pairs operand base at.
    let fresh : Fresh pairs = subst Fresh (sym at.is) (pairs_sound (lines_at func block) at.front place (arrives_sound func block at.front at.arrives)).fresh in
    fresh operand base
