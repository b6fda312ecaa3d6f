use Rattle.rewritten_sound.proofs.definite.Instance as laws
use Rattle.rewritten_sound.proofs.definite.rewritten_is_definite.Goals as goal

pub returns : goal.returns
returns c = laws.rewritten_is_definite
