use Rattle.folded_runs.proofs.TableRuns as laws
use Rattle.folded_runs.proofs.folded_give_the_same.Goals as goal

pub returns : goal.returns
returns c = laws.folded_give_the_same
