use Rattle.rewritten_sound.proofs.shape.TargetLaws as laws
use Rattle.rewritten_sound.proofs.shape.rewritten_is_target.Goals as goal

pub returns : goal.returns
returns c = laws.rewritten_is_target
