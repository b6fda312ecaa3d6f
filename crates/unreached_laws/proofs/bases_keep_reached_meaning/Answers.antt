use Rattle.unreached_laws.proofs.MeaningLaws as laws
use Rattle.unreached_laws.proofs.bases_keep_reached_meaning.Goals as goal

pub returns : goal.returns
returns c = laws.bases_keep_reached_meaning
