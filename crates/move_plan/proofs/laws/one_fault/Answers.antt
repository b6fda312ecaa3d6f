use Rattle.move_plan.proofs.OneLaws.{one_fault}
use Rattle.move_plan.proofs.laws.one_fault.Goals as goal

pub returns : goal.returns
returns c = λ text line code other_line other_code is also. one_fault text line code other_line other_code is also
