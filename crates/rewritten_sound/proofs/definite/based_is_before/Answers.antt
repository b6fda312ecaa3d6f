use Rattle.rewritten_sound.proofs.definite.Instance as laws
use Rattle.rewritten_sound.proofs.definite.based_is_before.Goals as goal

pub returns : goal.returns
returns c = laws.based_is_before
