use Rattle.rewriting_laws.proofs.LiveExact.{live_is_exact}
use Rattle.rewriting_laws.proofs.live_is_exact.Goals as goal

pub returns : goal.returns
returns c = live_is_exact
