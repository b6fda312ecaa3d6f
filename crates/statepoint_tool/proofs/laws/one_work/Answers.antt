use Rattle.statepoint_tool.proofs.CauseLaws.{Once-work}
use Rattle.statepoint_tool.proofs.laws.one_work.Goals as goal

pub returns : goal.returns
returns c = λ words given. Once-work words given
