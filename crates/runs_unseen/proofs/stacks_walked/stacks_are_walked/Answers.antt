use Rattle.runs_unseen.proofs.stacks_walked.WalkLaws as laws
use Rattle.runs_unseen.proofs.stacks_walked.stacks_are_walked.Goals as goal

pub returns : goal.returns
returns c = λ content sound plan bound stands settled lines flip some frames helds waiting.
    laws.stacks_walked content sound plan bound stands settled lines flip some frames helds waiting
