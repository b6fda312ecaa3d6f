use Rattle.runs_unseen.proofs.frames_spilled.SpillLaws as spilling
use Rattle.runs_unseen.proofs.frames_spilled.WaitLaws as waiting
use Rattle.runs_unseen.proofs.calls_unseen.StatesWaiting as laws
use Rattle.runs_unseen.proofs.calls_unseen.states_wait.Goals as goal

pub returns : goal.returns
returns c = laws.states_wait waiting.waits spilling.spills
