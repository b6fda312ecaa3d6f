use Rattle.rewritten_sound.proofs.shape.ModuleLaws as laws
use Rattle.rewritten_sound.proofs.shape.rewritten_is_typed.Goals as goal

pub returns : goal.returns
returns c = laws.rewritten_is_typed
