use Rattle.sp_rewrite.proofs.RemovalLaws as laws
use Rattle.sp_rewrite.proofs.laws.removal_ends_there.Goals as goal

pub returns-clause-ends : goal.returns-clause-ends
returns-clause-ends c = laws.removal_ends

pub returns-clause-there : goal.returns-clause-there
returns-clause-there c = laws.removal_ends_there
