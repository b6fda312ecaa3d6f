use Rattle.phi_webs.proofs.RemovalLaws.{kept_are_open}
use Rattle.phi_webs.proofs.laws.kept_are_open.Goals as goal

pub returns : goal.returns
returns g c = kept_are_open g.T.PartialEq.eq
