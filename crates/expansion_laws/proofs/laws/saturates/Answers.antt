use Rattle.expansion_laws.proofs.NumberLaws.{saturates_down, saturates_up}
use Rattle.expansion_laws.proofs.laws.saturates.Goals as goal

pub returns-clause-down : goal.returns-clause-down
returns-clause-down c = saturates_down

pub returns-clause-up : goal.returns-clause-up
returns-clause-up c = saturates_up
