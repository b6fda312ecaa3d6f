use Rattle.known_values.proofs.TextLaws as laws
use Rattle.known_values.proofs.targets_run_their_text.Goals as goal

pub returns : goal.returns
returns c = laws.targets_run_their_text
