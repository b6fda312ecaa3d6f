use Rattle.compact_plan.proofs.HeapLaws as laws
use Rattle.compact_plan.proofs.laws.event_compacts.Goals as goal

pub returns : goal.returns
returns c = laws.event_compacts
