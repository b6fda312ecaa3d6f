use Rattle.unreached_laws.proofs.MeaningLaws as laws
use Rattle.unreached_laws.proofs.unreached_are_no_matter.Goals as goal

pub returns : goal.returns
returns c = laws.unreached_are_no_matter
