use Rattle.moves_unseen.proofs.SameSteps as laws
use Rattle.moves_unseen.proofs.comparisons_follow.Goals as goal

pub returns : goal.returns
returns c = λ content machinery setting state extra related line rest is types op_is given gives ty typed first second.
    laws.same_follows content machinery setting state extra related line rest is types op_is given gives ty typed first second
