use Rattle.rewriting_laws.proofs.RemovalLaws as laws
use Rattle.rewriting_laws.proofs.removal_fits.Goals as goal

pub returns : goal.returns
returns c = laws.removal_fits
