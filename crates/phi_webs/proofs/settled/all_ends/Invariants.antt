use Rattle.phi_webs.proofs.LookLemmas.{EndsSoFar}
use Rattle.phi_webs.proofs.settled.all_ends.Given as goal

abbrev pub invariant-loop-place : goal.invariant-loop-place
invariant-loop-place l = EndsSoFar l.fn.ups.items l.ups.items l.ends.items l.place
