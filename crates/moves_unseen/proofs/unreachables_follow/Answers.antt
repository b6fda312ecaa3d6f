use Rattle.moves_unseen.proofs.BranchSteps as laws
use Rattle.moves_unseen.proofs.unreachables_follow.Goals as goal

pub returns : goal.returns
returns c = λ content target map_given plan bound state extra related line rest is op_is. laws.unreachable_follows content target map_given plan bound state extra related line rest is op_is
