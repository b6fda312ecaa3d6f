use Rattle.expansion_laws.proofs.FunnelLaws.{funnels_left, funnels_right}
use Rattle.expansion_laws.proofs.laws.funnels.Goals as goal

pub returns-clause-left : goal.returns-clause-left
returns-clause-left c = funnels_left

pub returns-clause-right : goal.returns-clause-right
returns-clause-right c = funnels_right
