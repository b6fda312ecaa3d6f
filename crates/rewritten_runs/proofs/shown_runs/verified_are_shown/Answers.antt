use Rattle.rewritten_runs.proofs.shown_runs.SeenLaws as laws
use Rattle.rewritten_runs.proofs.shown_runs.verified_are_shown.Goals as goal

pub returns : goal.returns
returns c = laws.verified_are_shown
