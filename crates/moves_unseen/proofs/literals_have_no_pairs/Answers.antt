use Rattle.moves_unseen.proofs.LiteralLaws as laws
use Rattle.moves_unseen.proofs.literals_have_no_pairs.Goals as goal

pub returns : goal.returns
returns c = λ func block place pairs arrived literal. laws.literals_bare func block place pairs arrived literal
