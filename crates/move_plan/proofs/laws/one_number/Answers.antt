use Rattle.move_plan.proofs.InputLaws.{one_number}
use Rattle.move_plan.proofs.laws.one_number.Goals as goal

pub returns : goal.returns
returns c = λ line one other is also. one_number line one other is also
