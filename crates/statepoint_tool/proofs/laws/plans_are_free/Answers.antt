use Rattle.statepoint_tool.proofs.HeadlineLaws as headline
use Rattle.statepoint_tool.proofs.laws.plans_are_free.Goals as goal

pub returns : goal.returns
returns c = headline.plans_are_free
