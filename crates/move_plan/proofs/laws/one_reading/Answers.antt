use Rattle.move_plan.proofs.FaultLaws.{one_reading}
use Rattle.move_plan.proofs.laws.one_reading.Goals as goal

pub returns : goal.returns
returns c = λ line one other is also. one_reading line one other is also
