use Rattle.phi_webs.proofs.ForestLemmas.{Shortens}
use Rattle.phi_webs.proofs.forest.shorten.Given as goal

abbrev pub invariant-loop-step : goal.invariant-loop-step
invariant-loop-step l = Shortens l.fn.ups.items l.ups.items l.here l.end
