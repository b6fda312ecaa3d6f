use Rattle.rewriting_laws.proofs.RemovalLaws as laws
use Rattle.rewriting_laws.proofs.solved_fits.Goals as goal

pub returns : goal.returns
returns c = laws.solved_fits
