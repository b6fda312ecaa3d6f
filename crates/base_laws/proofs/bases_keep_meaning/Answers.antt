use Rattle.base_laws.proofs.MeaningLaws as laws
use Rattle.base_laws.proofs.bases_keep_meaning.Goals as goal

pub returns : goal.returns
returns c = laws.bases_keep_meaning
