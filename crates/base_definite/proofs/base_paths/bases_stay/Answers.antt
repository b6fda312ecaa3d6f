use Rattle.base_definite.proofs.base_paths.StayLaws as laws
use Rattle.base_definite.proofs.base_paths.bases_stay.Goals as goal

pub returns : goal.returns
returns c = laws.bases_stay
