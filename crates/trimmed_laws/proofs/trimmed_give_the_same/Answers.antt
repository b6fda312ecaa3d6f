use Rattle.trimmed_laws.proofs.TrimLaws as laws
use Rattle.trimmed_laws.proofs.trimmed_give_the_same.Goals as goal

pub returns : goal.returns
returns c = laws.trimmed_give_the_same
