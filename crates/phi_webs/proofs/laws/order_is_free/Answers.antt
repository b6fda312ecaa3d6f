use Rattle.phi_webs.proofs.RemovalLaws.{order_is_free}
use Rattle.phi_webs.proofs.laws.order_is_free.Goals as goal

pub returns : goal.returns
returns g c = order_is_free g.T.PartialEq.eq
