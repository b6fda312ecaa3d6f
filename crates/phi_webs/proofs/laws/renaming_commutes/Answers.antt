use Rattle.phi_webs.proofs.RenamingLaws.{renaming_commutes}
use Rattle.phi_webs.proofs.laws.renaming_commutes.Goals as goal

pub returns : goal.returns
returns g c = renaming_commutes g.T.PartialEq.eq g.S.PartialEq.eq
