use Rattle.folded_forms.proofs.FoldingLaws as laws
use Rattle.folded_forms.proofs.foldings_are_known.Goals as goal

pub returns : goal.returns
returns c = laws.foldings_are_known
