use Rattle.rewritten_runs.proofs.RunLaws as laws
use Rattle.rewritten_runs.proofs.fronts_are_source.Goals as goal

pub returns : goal.returns
returns c = laws.fronts_are_source
