use Rattle.phi_webs.specs.Forests.{KeepsEnds}
use Rattle.phi_webs.proofs.search.Search.merge.Given as goal

abbrev pub invariant-loop-step : goal.invariant-loop-step
invariant-loop-step l = KeepsEnds l.fn.ups.items l.ups.items
