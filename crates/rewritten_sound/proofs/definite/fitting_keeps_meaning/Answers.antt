use Rattle.rewritten_sound.proofs.definite.Instance as laws
use Rattle.rewritten_sound.proofs.definite.fitting_keeps_meaning.Goals as goal

pub returns : goal.returns
returns c = laws.fitting_keeps_meaning
