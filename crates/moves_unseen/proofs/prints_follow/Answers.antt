use Rattle.moves_unseen.proofs.PlainCallSteps as laws
use Rattle.moves_unseen.proofs.prints_follow.Goals as goal

pub returns : goal.returns
returns c = λ content machinery setting state extra related line rest is types op_is gives_none shown.
    laws.print_follows content machinery setting state extra related line rest is types op_is gives_none shown
