use Rattle.sp_rewrite.proofs.MakingLaws as laws
use Rattle.sp_rewrite.proofs.laws.functions_are_ready.Goals as goal

pub returns : goal.returns
returns c = laws.functions_are_ready
