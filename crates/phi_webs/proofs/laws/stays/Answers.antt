use Rattle.phi_webs.proofs.RemovalLaws.{outside_stays, settles_at_once}
use Rattle.phi_webs.proofs.laws.stays.Goals as goal

pub returns-clause-outside : goal.returns-clause-outside
returns-clause-outside g c = outside_stays g.T.PartialEq.eq

pub returns-clause-settled : goal.returns-clause-settled
returns-clause-settled g c = settles_at_once g.T.PartialEq.eq
