use Rattle.renaming_laws.proofs.ImageLaws as laws
use Rattle.renaming_laws.proofs.images_give_the_same.Goals as goal

pub returns : goal.returns
returns c = laws.images_give_the_same
