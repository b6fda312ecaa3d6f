use Rattle.compacted_runs.proofs.MachineLaws as laws
use Rattle.compacted_runs.proofs.machines_compact.Goals as goal

pub returns : goal.returns
returns c = laws.machines_compact
