use Rattle.folded_runs.proofs.TableRuns as laws
use Rattle.folded_runs.proofs.folded_and_thinned_give_the_same.Goals as goal

pub returns : goal.returns
returns c = laws.folded_and_thinned_give_the_same
