use Rattle.expansion_laws.proofs.NumberLaws as laws
use Rattle.expansion_laws.proofs.laws.gives_magnitude.Goals as goal

pub returns : goal.returns
returns c = laws.gives_magnitude
