use Rattle.folded_source.proofs.StepLaws as laws
use Rattle.folded_source.proofs.foldings_begin.Goals as goal

pub returns : goal.returns
returns c = laws.foldings_begin
