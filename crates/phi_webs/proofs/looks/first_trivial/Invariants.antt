use Rattle.std.proofs.Common.{take}
use Rattle.phi_webs.specs.Settled.{web_of}
use Rattle.phi_webs.proofs.LookLemmas.{Passes}
use Rattle.phi_webs.proofs.looks.first_trivial.Given as goal

abbrev pub invariant-loop-phi : goal.invariant-loop-phi
invariant-loop-phi l = Passes l.fn.ups.items l.ups.items (web_of (take l.phi-index l.phis))
