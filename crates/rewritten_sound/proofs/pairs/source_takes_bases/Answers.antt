use Rattle.rewritten_sound.proofs.pairs.TakesFacts as laws
use Rattle.rewritten_sound.proofs.pairs.source_takes_bases.Goals as goal

pub returns : goal.returns
returns c = laws.source_takes_bases
