use Rattle.move_plan.proofs.EitherLaws.{input_or_fault}
use Rattle.move_plan.proofs.laws.input_or_fault.Goals as goal

pub returns : goal.returns
returns c = λ text. input_or_fault text
