use Rattle.move_plan.proofs.OneLaws.{one_input_fault}
use Rattle.move_plan.proofs.laws.one_input_fault.Goals as goal

pub returns : goal.returns
returns c = λ text line other is also. one_input_fault text line other is also
