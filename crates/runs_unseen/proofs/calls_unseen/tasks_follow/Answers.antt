use Rattle.runs_unseen.proofs.frames_spilled.SpillLaws as spilling
use Rattle.runs_unseen.proofs.frames_spilled.WaitLaws as waiting
use Rattle.runs_unseen.proofs.calls_unseen.TaskSteps as laws
use Rattle.runs_unseen.proofs.calls_unseen.StatesWaiting.{states_wait}
use Rattle.runs_unseen.proofs.calls_unseen.tasks_follow.Goals as goal

pub returns : goal.returns
returns c = laws.tasks_follow (states_wait waiting.waits spilling.spills)
