use Rattle.base_definite.proofs.BasesInstance as laws
use Rattle.base_definite.proofs.based_has_definite_bases.Goals as goal

pub returns : goal.returns
returns c = laws.based_has_definite_bases
