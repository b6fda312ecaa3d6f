use Rattle.rewriting_laws.proofs.RemovalLaws as laws
use Rattle.rewriting_laws.proofs.least_is_one.Goals as goal

pub returns : goal.returns
returns c = laws.least_is_one
