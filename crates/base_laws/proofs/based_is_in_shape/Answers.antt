use Rattle.base_laws.proofs.ShapeLaws as laws
use Rattle.base_laws.proofs.based_is_in_shape.Goals as goal

pub returns : goal.returns
returns c = laws.based_is_in_shape
