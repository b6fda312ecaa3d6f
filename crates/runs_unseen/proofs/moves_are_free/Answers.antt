use Rattle.runs_unseen.proofs.SeenRuns as laws
use Rattle.runs_unseen.proofs.moves_are_free.Goals as goal

pub returns : goal.returns
returns c = laws.moves_are_free
