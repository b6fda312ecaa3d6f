use Rattle.folded_source.proofs.SettleLaws as laws
use Rattle.folded_source.proofs.thinned_stays_source.Goals as goal

pub returns : goal.returns
returns c = laws.thinned_stays_source
