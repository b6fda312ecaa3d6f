use Rattle.moves_unseen.proofs.IcmpSteps as laws
use Rattle.moves_unseen.proofs.icmps_follow.Goals as goal

pub returns : goal.returns
returns c = λ content machinery setting state extra related line rest is pred op_is how given gives ty typed.
    laws.icmp_follows content machinery setting state extra related line rest is pred op_is how given gives ty typed
