use Rattle.std.proofs.Common.{ℕ, ◌≤◌, take}
use Rattle.std.specs.List.{Contains}
use Rattle.phi_webs.specs.Webs.{Phi}
use Rattle.phi_webs.specs.Settled.{web_of}
use Rattle.phi_webs.proofs.settled.greatest.Given as goal

abbrev pub invariant-loop-phi : goal.invariant-loop-phi
invariant-loop-phi l = (phi : Phi ℕ) → Contains (web_of (take l.phi-index l.phis)) phi → phi.name ≤ l.greatest
