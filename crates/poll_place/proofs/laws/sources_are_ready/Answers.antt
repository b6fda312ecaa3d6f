use Rattle.poll_place.proofs.ReadyLemmas.{sources_are_ready}
use Rattle.poll_place.proofs.laws.sources_are_ready.Goals as goal

pub returns : goal.returns
returns c = sources_are_ready
