use Rattle.move_plan.proofs.OneLaws.{one_input}
use Rattle.move_plan.proofs.laws.one_input.Goals as goal

pub returns : goal.returns
returns c = λ text one other is also. one_input text one other is also
