use Rattle.frames_shown.proofs.FrameLaws as laws
use Rattle.frames_shown.proofs.values_are_shown.Goals as goal

pub returns : goal.returns
returns c = λ machinery stands settled registers call slots pairs keeps one is all.
    laws.values_shown machinery stands settled registers call slots pairs keeps one is all
