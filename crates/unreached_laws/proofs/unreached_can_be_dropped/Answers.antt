use Rattle.unreached_laws.proofs.MarkLaws as laws
use Rattle.unreached_laws.proofs.unreached_can_be_dropped.Goals as goal

pub returns : goal.returns
returns c = laws.unreached_can_be_dropped
