use Rattle.frames_shown.proofs.StackLaws as laws
use Rattle.frames_shown.proofs.traps_are_shown.Goals as goal

pub returns : goal.returns
returns c = λ machinery names end state extra settled room all. laws.closing_shown machinery names end state extra settled room all
