use Rattle.runs_unseen.proofs.SeenRuns as laws
use Rattle.runs_unseen.proofs.machine_runs_are_seen.Goals as goal

pub returns : goal.returns
returns c = λ content sound input plan bound machine gives. laws.seen_here content sound input plan bound machine gives
