use Rattle.phi_webs.proofs.RemovalLaws.{removed_are_solved}
use Rattle.phi_webs.proofs.laws.removed_are_solved.Goals as goal

pub returns : goal.returns
returns g c = removed_are_solved g.T.PartialEq.eq
