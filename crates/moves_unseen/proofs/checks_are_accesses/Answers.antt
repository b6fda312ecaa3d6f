use Rattle.moves_unseen.proofs.MemoryLaws as laws
use Rattle.moves_unseen.proofs.checks_are_accesses.Goals as goal

pub returns : goal.returns
returns c = λ layouts objects heap are asked to base word base_word pair. laws.check_is_access layouts objects heap are asked to base word base_word pair
