use Rattle.rewritten_sound.proofs.shape.BasedTarget as laws
use Rattle.rewritten_sound.proofs.shape.based_is_target.Goals as goal

pub returns : goal.returns
returns c = laws.based_is_target
