use Rattle.moves_unseen.proofs.PointerLaws as laws
use Rattle.moves_unseen.proofs.geps_follow.Goals as goal

pub returns : goal.returns
returns c = λ content machinery setting same_layouts state extra related line rest is elem index_width field op_is index gives.
    laws.gep_follows content machinery setting same_layouts state extra related line rest is elem index_width field op_is index gives
