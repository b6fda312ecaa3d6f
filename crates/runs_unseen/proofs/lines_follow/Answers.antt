use Rattle.runs_unseen.proofs.LineCases as laws
use Rattle.runs_unseen.proofs.lines_follow.Goals as goal

pub returns : goal.returns
returns c = laws.all_lines_follow
