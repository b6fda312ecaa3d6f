use Rattle.runs_unseen.proofs.frames_spilled.WaitLaws as laws
use Rattle.runs_unseen.proofs.frames_spilled.running_frames_wait.Goals as goal

pub returns : goal.returns
returns c = λ content sound objects stands frame held running line rest is id callee types op_is.
    laws.waits content sound objects stands frame held running line rest is id callee types op_is
