use Rattle.runs_unseen.proofs.machine_ends.EndLaws as laws
use Rattle.runs_unseen.proofs.machine_ends.each_run_ends.Goals as goal

pub returns : goal.returns
returns c = laws.each_run_ends
