use Rattle.phi_webs.proofs.RemovalLaws.{minimal_absorbs}
use Rattle.phi_webs.proofs.laws.absorbs.Goals as goal

pub returns : goal.returns
returns g c = minimal_absorbs g.T.PartialEq.eq
