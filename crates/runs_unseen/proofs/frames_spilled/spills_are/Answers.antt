use Rattle.runs_unseen.proofs.frames_spilled.SpillLaws as laws
use Rattle.runs_unseen.proofs.frames_spilled.spills_are.Goals as goal

pub returns : goal.returns
returns c = λ content sound machinery state extra running line rest is id callee types op_is.
    laws.spills content sound machinery state extra running line rest is id callee types op_is
