use Rattle.run_texts.proofs.TextLaws as laws
use Rattle.run_texts.proofs.bare_texts.Goals as goal

pub returns : goal.returns
returns c = laws.bare_texts
