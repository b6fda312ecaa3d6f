use Rattle.llvm_lift.proofs.AnswerLaws as laws
use Rattle.llvm_lift.proofs.laws.answers_are_typed.Goals as goal

pub returns : goal.returns
returns c = laws.answers_are_typed
