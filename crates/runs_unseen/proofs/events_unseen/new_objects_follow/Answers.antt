use Rattle.runs_unseen.proofs.events_unseen.ObjectSteps as laws
use Rattle.runs_unseen.proofs.events_unseen.new_objects_follow.Goals as goal

pub returns : goal.returns
returns c = λ content sound plan bound state extra related line rest is due. laws.new_objects_follow content sound plan bound state extra related line rest is due
