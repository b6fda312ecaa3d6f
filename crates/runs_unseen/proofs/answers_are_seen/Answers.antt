use Rattle.runs_unseen.proofs.SeenRuns as laws
use Rattle.runs_unseen.proofs.answers_are_seen.Goals as goal

pub returns : goal.returns
returns c = λ content sound input plan bound machine gives old new written.
    laws.answer_seen content sound input plan bound machine gives old new written
