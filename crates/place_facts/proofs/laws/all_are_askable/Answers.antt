use Rattle.place_facts.proofs.ShapeLemmas.{all_are_askable}
use Rattle.place_facts.proofs.laws.all_are_askable.Goals as goal

pub returns : goal.returns
returns c = all_are_askable
