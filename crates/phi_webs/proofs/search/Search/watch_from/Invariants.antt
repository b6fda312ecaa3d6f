use Rattle.phi_webs.specs.Forests.{KeepsEnds}
use Rattle.phi_webs.proofs.search.Search.watch_from.Given as goal

abbrev pub invariant-loop-at : goal.invariant-loop-at
invariant-loop-at l = KeepsEnds l.fn.ups.items l.ups.items
