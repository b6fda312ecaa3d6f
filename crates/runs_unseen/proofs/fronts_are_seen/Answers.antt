use Rattle.runs_unseen.proofs.SeenRuns as laws
use Rattle.runs_unseen.proofs.fronts_are_seen.Goals as goal

pub returns : goal.returns
returns c = λ content sound input plan bound now reached old new written.
    laws.front_seen content sound input plan bound now reached old new written
