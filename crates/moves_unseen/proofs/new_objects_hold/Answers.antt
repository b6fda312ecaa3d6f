use Rattle.moves_unseen.proofs.AllocLaws as laws
use Rattle.moves_unseen.proofs.new_objects_hold.Goals as goal

pub returns : goal.returns
returns c = λ layouts objects heap are layout count room. laws.made_is_held layouts objects heap are layout count room
