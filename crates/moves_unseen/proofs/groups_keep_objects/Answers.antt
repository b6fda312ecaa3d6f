use Rattle.moves_unseen.proofs.HeapLaws as laws
use Rattle.moves_unseen.proofs.groups_keep_objects.Goals as goal

pub returns : goal.returns
returns c = λ layouts objects heap lines flip are some. laws.group_held layouts objects heap.stands heap.contents are lines flip some
