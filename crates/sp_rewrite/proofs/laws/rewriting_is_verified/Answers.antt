use Rattle.sp_rewrite.proofs.RewrittenLaws as laws
use Rattle.sp_rewrite.proofs.laws.rewriting_is_verified.Goals as goal

pub returns : goal.returns
returns c = laws.rewriting_is_verified
