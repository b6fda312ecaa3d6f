use Rattle.moves_unseen.proofs.StoreSteps as laws
use Rattle.moves_unseen.proofs.stores_follow.Goals as goal

pub returns : goal.returns
returns c = λ content machinery setting layouts_are state extra related line rest is op_is cell type_is checked gives_none fit.
    (laws.store_follows content machinery setting layouts_are state extra related line rest is op_is cell type_is checked gives_none fit, laws.store_seen content machinery setting layouts_are state extra related line rest is op_is cell type_is checked gives_none fit)
