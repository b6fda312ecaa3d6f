use Rattle.compact_plan.proofs.LineLaws as laws
use Rattle.compact_plan.proofs.laws.others_stay.Goals as goal

pub returns : goal.returns
returns c = laws.others_stay
