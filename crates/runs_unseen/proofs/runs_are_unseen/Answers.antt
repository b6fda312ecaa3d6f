use Rattle.runs_unseen.proofs.SeenRuns as laws
use Rattle.runs_unseen.proofs.runs_are_unseen.Goals as goal

pub returns : goal.returns
returns c = laws.moves_are_unseen
