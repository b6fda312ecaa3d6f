use Rattle.run_texts.proofs.TextLaws as laws
use Rattle.run_texts.proofs.written_first.Goals as goal

pub returns : goal.returns
returns c = laws.written_first
