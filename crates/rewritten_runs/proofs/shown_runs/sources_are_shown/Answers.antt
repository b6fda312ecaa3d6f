use Rattle.rewritten_runs.proofs.shown_runs.SeenLaws as laws
use Rattle.rewritten_runs.proofs.shown_runs.sources_are_shown.Goals as goal

pub returns : goal.returns
returns c = laws.sources_are_shown
