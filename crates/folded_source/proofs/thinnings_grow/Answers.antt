use Rattle.folded_source.proofs.StepLaws as laws
use Rattle.folded_source.proofs.thinnings_grow.Goals as goal

pub returns : goal.returns
returns c = laws.thinnings_grow
