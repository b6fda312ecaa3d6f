use Rattle.renaming_laws.proofs.ImageLaws as laws
use Rattle.renaming_laws.proofs.renumbering_gives_the_same.Goals as goal

pub returns : goal.returns
returns c = laws.renumbering_gives_the_same
