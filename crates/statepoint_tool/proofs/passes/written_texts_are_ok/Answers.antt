use Rattle.statepoint_tool.proofs.CommandLaws as laws
use Rattle.statepoint_tool.proofs.passes.written_texts_are_ok.Goals as goal

pub returns : goal.returns
returns c = laws.written_texts_are_ok
