use Rattle.statepoint_tool.proofs.PassLaws as laws
use Rattle.statepoint_tool.proofs.passes.accepted_texts_pass.Goals as goal

pub returns : goal.returns
returns c = laws.accepted_texts_pass
