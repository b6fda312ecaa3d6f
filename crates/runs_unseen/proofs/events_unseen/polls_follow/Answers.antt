use Rattle.runs_unseen.proofs.events_unseen.PollSteps as laws
use Rattle.runs_unseen.proofs.events_unseen.polls_follow.Goals as goal

pub returns : goal.returns
returns c = λ content sound plan bound state extra related line rest is due. laws.polls_follow content sound plan bound state extra related line rest is due
