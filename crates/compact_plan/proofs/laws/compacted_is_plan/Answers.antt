use Rattle.compact_plan.proofs.PlanLaws as laws
use Rattle.compact_plan.proofs.laws.compacted_is_plan.Goals as goal

pub returns : goal.returns
returns c = laws.compacted_is_plan
