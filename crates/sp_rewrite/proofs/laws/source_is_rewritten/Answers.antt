use Rattle.sp_rewrite.proofs.RewrittenLaws as laws
use Rattle.sp_rewrite.proofs.laws.source_is_rewritten.Goals as goal

pub returns : goal.returns
returns c = laws.source_is_rewritten
