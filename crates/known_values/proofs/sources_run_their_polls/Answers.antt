use Rattle.known_values.proofs.TextLaws as laws
use Rattle.known_values.proofs.sources_run_their_polls.Goals as goal

pub returns : goal.returns
returns c = laws.sources_run_their_polls
