use Rattle.moves_unseen.proofs.AccessSteps as laws
use Rattle.moves_unseen.proofs.loads_follow.Goals as goal

pub returns : goal.returns
returns c = λ content machinery setting layouts_are state extra related line rest is op_is cell type_is checked given gives typed.
    (laws.load_follows content machinery setting layouts_are state extra related line rest is op_is cell type_is checked given gives typed, laws.load_seen content machinery setting layouts_are state extra related line rest is op_is cell type_is checked given gives typed)
