use Rattle.rewritten_sound.proofs.pairs.Verdict as laws
use Rattle.rewritten_sound.proofs.pairs.fitting_is_verified.Goals as goal

pub returns : goal.returns
returns c = laws.fitting_is_verified
