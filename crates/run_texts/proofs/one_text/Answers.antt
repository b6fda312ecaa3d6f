use Rattle.run_texts.proofs.TextLaws as laws
use Rattle.run_texts.proofs.one_text.Goals as goal

pub returns : goal.returns
returns c = laws.one_text
