use Rattle.stackmap_write.specs.ModuleMaps.{map_of}
use Rattle.runs_unseen.proofs.returns_unseen.ReturnSteps as laws
use Rattle.runs_unseen.proofs.returns_unseen.returns_follow.Goals as goal

pub returns : goal.returns
returns c = λ content sound plan bound state extra related line rest is due. laws.return_follows content sound (map_of content) plan bound state extra related line rest is due
