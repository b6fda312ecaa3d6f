use Rattle.sp_rewrite.proofs.RemovalLaws as laws
use Rattle.sp_rewrite.proofs.laws.removal_keeps_all.Goals as goal

pub returns : goal.returns
returns c = laws.removal_keeps_all
