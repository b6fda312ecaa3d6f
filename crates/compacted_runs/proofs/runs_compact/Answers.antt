use Rattle.compacted_runs.proofs.CompactLaws as laws
use Rattle.compacted_runs.proofs.runs_compact.Goals as goal

pub returns : goal.returns
returns c = laws.runs_compact
