use Rattle.rewritten_runs.proofs.NameLaws as laws
use Rattle.rewritten_runs.proofs.names_are_kept.Goals as goal

pub returns : goal.returns
returns c = laws.names_are_kept
