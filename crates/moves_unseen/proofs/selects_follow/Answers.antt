use Rattle.moves_unseen.proofs.SelectSteps as laws
use Rattle.moves_unseen.proofs.selects_follow.Goals as goal

pub returns : goal.returns
returns c = λ content machinery setting state extra related line rest is op_is condition first second given gives typed.
    laws.select_follows content machinery setting state extra related line rest is op_is condition first second given gives typed
