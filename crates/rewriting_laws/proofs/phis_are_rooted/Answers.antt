use Rattle.rewriting_laws.proofs.RemovalLaws as laws
use Rattle.rewriting_laws.proofs.phis_are_rooted.Goals as goal

pub returns : goal.returns
returns c = laws.phis_are_rooted
