use Rattle.move_plan.proofs.EitherLaws.{plan_or_fault}
use Rattle.move_plan.proofs.laws.plan_or_fault.Goals as goal

pub returns : goal.returns
returns c = λ text. plan_or_fault text
