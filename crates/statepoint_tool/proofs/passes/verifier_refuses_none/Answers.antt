use Rattle.statepoint_tool.proofs.PassLaws as laws
use Rattle.statepoint_tool.proofs.passes.verifier_refuses_none.Goals as goal

pub returns : goal.returns
returns c = laws.verifier_refuses_none
