use Rattle.made_objects.proofs.MakingLaws as laws
use Rattle.made_objects.proofs.laws.runs_make_their_objects.Goals as goal

pub returns : goal.returns
returns c = laws.runs_make_their_objects
