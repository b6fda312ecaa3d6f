use Rattle.moves_unseen.proofs.VerifiedLaws as laws
use Rattle.moves_unseen.proofs.accesses_are_checked.Goals as goal

pub returns : goal.returns
returns c = λ func block place none pairs arrived line stands address accesses registers.
    laws.check_before func block place none pairs arrived line stands address accesses registers
