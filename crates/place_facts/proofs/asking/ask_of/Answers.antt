use Rattle.std.proofs.Common.{◌∙◌, sym}
use Rattle.place_facts.proofs.SpotLemmas.{none_past}
use Rattle.place_facts.proofs.asking.ask_of.Goals as goal

pub ask_for-requires-clause-spot : goal.ask_for-requires-clause-spot
ask_for-requires-clause-spot c = c.requires.spots.each c.args.question.place c.in-Some.spot (sym c.spot_at.ensures ∙ c.in-Some.is)

pub returns-in-None : goal.returns-in-None
returns-in-None c = none_past c.args.func.now.content c.args.spots.now c.args.question.place c.requires.spots (sym c.spot_at.ensures ∙ c.in-None.is)
