use Rattle.moves_unseen.proofs.BranchSteps as laws
use Rattle.moves_unseen.proofs.jumps_follow.Goals as goal

pub returns : goal.returns
returns c = λ content target map_given plan bound state extra related line rest is jump. laws.jump_follows content target map_given plan bound state extra related line rest is jump
