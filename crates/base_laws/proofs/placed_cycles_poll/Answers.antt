use Rattle.base_laws.proofs.PollLaws as laws
use Rattle.base_laws.proofs.placed_cycles_poll.Goals as goal

pub returns : goal.returns
returns c = laws.placed_cycles_poll
