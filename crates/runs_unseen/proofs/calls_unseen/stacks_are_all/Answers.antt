use Rattle.runs_unseen.proofs.calls_unseen.StatesWaiting as laws
use Rattle.runs_unseen.proofs.calls_unseen.stacks_are_all.Goals as goal

pub returns : goal.returns
returns c = laws.stacks_are_all
