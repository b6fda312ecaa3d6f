use Rattle.moves_unseen.proofs.StoreLaws as laws
use Rattle.moves_unseen.proofs.stores_hold.Goals as goal

pub returns : goal.returns
returns c = λ layouts objects heap are asked to word word_is place is datum held holds. laws.store_is_access layouts objects heap are asked to word word_is place is datum held holds
