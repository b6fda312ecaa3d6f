use Rattle.phi_webs.proofs.BecomesLaws.{becomes_is_removal, becomes_is_minimal}
use Rattle.phi_webs.proofs.laws.becomes_the_end.Goals as goal

pub returns-clause-removal : goal.returns-clause-removal
returns-clause-removal g c = becomes_is_removal g.T.PartialEq.eq

pub returns-clause-minimal : goal.returns-clause-minimal
returns-clause-minimal g c = becomes_is_minimal g.T.PartialEq.eq
