use Rattle.rewritten_sound.proofs.pairs.TakesFacts as laws
use Rattle.rewritten_sound.proofs.pairs.fitting_source_is_verified.Goals as goal

pub returns : goal.returns
returns c = laws.fitting_source_is_verified
