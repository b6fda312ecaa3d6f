use Rattle.base_definite.proofs.BasesInstance as laws
use Rattle.base_definite.proofs.based_bases_stay.Goals as goal

pub returns : goal.returns
returns c = laws.based_bases_stay
