use Rattle.rewritten_runs.proofs.RunLaws as laws
use Rattle.rewritten_runs.proofs.seen_runs_are_source.Goals as goal

pub returns : goal.returns
returns c = laws.seen_runs_are_source
