use Rattle.sp_rewrite.proofs.RemovalLaws as laws
use Rattle.sp_rewrite.proofs.laws.removal_is_no_matter.Goals as goal

pub returns : goal.returns
returns c = laws.removal_is_no_matter
