use Rattle.rewritten_sound.proofs.definite.Instance as laws
use Rattle.rewritten_sound.proofs.definite.live_is_exact_there.Goals as goal

pub returns : goal.returns
returns c = laws.live_is_exact_there
