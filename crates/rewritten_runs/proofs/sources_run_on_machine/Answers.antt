use Rattle.rewritten_runs.proofs.RunLaws as laws
use Rattle.rewritten_runs.proofs.sources_run_on_machine.Goals as goal

pub returns : goal.returns
returns c = laws.sources_run_on_machine
