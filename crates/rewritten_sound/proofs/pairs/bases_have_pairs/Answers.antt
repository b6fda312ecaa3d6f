use Rattle.rewritten_sound.proofs.pairs.PairsFacts as laws
use Rattle.rewritten_sound.proofs.pairs.bases_have_pairs.Goals as goal

pub returns : goal.returns
returns c = laws.bases_have_pairs
