use Rattle.moves_unseen.proofs.OpeningLaws as laws
use Rattle.moves_unseen.proofs.openings_follow.Goals as goal

pub returns : goal.returns
returns c = λ content target map_given input plan bound. laws.openings_follow content target map_given input plan bound
