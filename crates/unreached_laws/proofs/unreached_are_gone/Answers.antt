use Rattle.unreached_laws.proofs.ReachedLaws as laws
use Rattle.unreached_laws.proofs.unreached_are_gone.Goals as goal

pub returns : goal.returns
returns c = laws.unreached_are_gone
