use Rattle.moves_unseen.proofs.VerifiedLaws as laws
use Rattle.moves_unseen.proofs.used_pairs_stand.Goals as goal

pub returns : goal.returns
returns c = λ func block place none code at pair uses pairs arrived.
    (laws.pair_stands func block place none code at pair uses pairs arrived, laws.base_stands func block place none code at pair uses pairs arrived)
