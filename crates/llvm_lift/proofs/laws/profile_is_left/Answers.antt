use Rattle.llvm_lift.proofs.AnswerLaws as laws
use Rattle.llvm_lift.proofs.laws.profile_is_left.Goals as goal

pub returns : goal.returns
returns c = laws.profile_is_left
