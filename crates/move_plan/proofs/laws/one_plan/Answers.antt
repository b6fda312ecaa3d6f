use Rattle.move_plan.proofs.OneLaws.{one_plan}
use Rattle.move_plan.proofs.laws.one_plan.Goals as goal

pub returns : goal.returns
returns c = λ text one other is also. one_plan text one other is also
