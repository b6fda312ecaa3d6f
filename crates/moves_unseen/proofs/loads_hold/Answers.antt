use Rattle.moves_unseen.proofs.MemoryLaws as laws
use Rattle.moves_unseen.proofs.loads_hold.Goals as goal

pub returns : goal.returns
returns c = λ layouts objects heap are asked to word word_is place is. laws.load_is_access layouts objects heap are asked to word word_is place is
