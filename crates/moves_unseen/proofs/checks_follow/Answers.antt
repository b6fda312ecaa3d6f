use Rattle.moves_unseen.proofs.CheckSteps as laws
use Rattle.moves_unseen.proofs.checks_follow.Goals as goal

pub returns : goal.returns
returns c = λ content machinery setting layouts_are state extra related line rest is types op_is gives_none named_kind pair.
    laws.check_follows content machinery setting layouts_are state extra related line rest is types op_is gives_none named_kind pair
