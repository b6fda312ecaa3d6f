use Rattle.expansion_laws.proofs.PickLaws.{picks_one, picks_extreme}
use Rattle.expansion_laws.proofs.laws.picks.Goals as goal

pub returns-clause-one : goal.returns-clause-one
returns-clause-one c = picks_one

pub returns-clause-extreme : goal.returns-clause-extreme
returns-clause-extreme c = picks_extreme
