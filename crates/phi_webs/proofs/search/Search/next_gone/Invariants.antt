use Rattle.phi_webs.specs.Forests.{KeepsEnds}
use Rattle.phi_webs.proofs.search.Search.next_gone.Given as goal

abbrev pub invariant-loop-look : goal.invariant-loop-look
invariant-loop-look l = KeepsEnds l.fn.ups.items l.ups.items
