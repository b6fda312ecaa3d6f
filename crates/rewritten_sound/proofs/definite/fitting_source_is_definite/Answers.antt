use Rattle.rewritten_sound.proofs.definite.Instance as laws
use Rattle.rewritten_sound.proofs.definite.fitting_source_is_definite.Goals as goal

pub returns : goal.returns
returns c = laws.fitting_source_is_definite
