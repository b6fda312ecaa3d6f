use Rattle.sp_rewrite.proofs.RewrittenLaws.{few_are_not_many}
use Rattle.statepoint_tool.specs.Work.{rewritten, too_many}
use Rattle.statepoint_tool.proofs.rewrite.rewritten.Goals as goal

pub returns-in-Ok-clause-rewrites : goal.returns-in-Ok-clause-rewrites
returns-in-Ok-clause-rewrites c =
    rewritten c.in-Ok.after.content c.in-Ok.ensures.rewritten (few_are_not_many c.args.read.content c.in-Ok.ensures.few)

pub returns-in-Ok-clause-few : goal.returns-in-Ok-clause-few
returns-in-Ok-clause-few c = few_are_not_many c.args.read.content c.in-Ok.ensures.few

pub returns-in-Err-TooManyRelocations-clause-rewrites : goal.returns-in-Err-TooManyRelocations-clause-rewrites
returns-in-Err-TooManyRelocations-clause-rewrites c = too_many (c.in-Err-TooManyRelocations.ensures.many c.in-Err-TooManyRelocations.field-0-is)
