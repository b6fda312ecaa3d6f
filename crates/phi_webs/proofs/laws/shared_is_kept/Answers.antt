use Rattle.phi_webs.proofs.RemovalLaws.{shared_is_kept}
use Rattle.phi_webs.proofs.laws.shared_is_kept.Goals as goal

pub returns : goal.returns
returns g c = shared_is_kept g.T.PartialEq.eq
