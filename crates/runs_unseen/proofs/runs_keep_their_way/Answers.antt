use Rattle.runs_unseen.proofs.SeenRuns as laws
use Rattle.runs_unseen.proofs.runs_keep_their_way.Goals as goal

pub returns : goal.returns
returns c = λ content sound input plan bound machine gives. laws.keeps_way content sound input plan bound machine gives
