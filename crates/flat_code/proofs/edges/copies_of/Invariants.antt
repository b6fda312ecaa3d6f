use Rattle.std.proofs.Common.{◌≡◌, ◌++◌, drop}
use Rattle.flat_code.specs.Edges.{copies_from}
use Rattle.flat_code.proofs.edges.copies_of.Given as goal

abbrev pub invariant-loop-phi : goal.invariant-loop-phi
invariant-loop-phi l = l.copies.items ++ copies_from l.from l.next (drop l.phi-index l.phis) ≡ copies_from l.from l.first l.phis
