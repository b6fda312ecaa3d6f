use Rattle.rewritten_sound.proofs.definite.Instance as laws
use Rattle.rewritten_sound.proofs.definite.rewritten_keeps_meaning.Goals as goal

pub returns : goal.returns
returns c = laws.rewritten_keeps_meaning
