use Rattle.sp_rewrite.proofs.RewrittenLaws as laws
use Rattle.sp_rewrite.proofs.laws.relocates_are_few_or_many.Goals as goal

pub returns-clause-either : goal.returns-clause-either
returns-clause-either c = laws.few_or_many

pub returns-clause-apart : goal.returns-clause-apart
returns-clause-apart c = laws.few_are_not_many
