use Rattle.folded_source.proofs.SettleLaws as laws
use Rattle.folded_source.proofs.folded_stays_source.Goals as goal

pub returns : goal.returns
returns c = laws.folded_stays_source
