use Rattle.phi_webs.proofs.ForestLemmas.{Climbs}
use Rattle.phi_webs.proofs.forest.climbed.Given as goal

abbrev pub invariant-loop-step : goal.invariant-loop-step
invariant-loop-step l = Climbs l.ups l.name l.end l._step
