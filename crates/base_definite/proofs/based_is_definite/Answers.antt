use Rattle.base_definite.proofs.DefiniteInstance as laws
use Rattle.base_definite.proofs.based_is_definite.Goals as goal

pub returns : goal.returns
returns c = laws.based_is_definite
