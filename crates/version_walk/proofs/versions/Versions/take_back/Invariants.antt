use Rattle.std.proofs.Common.{length}
use Rattle.version_walk.proofs.SlotLemmas.{TakesOn}
use Rattle.version_walk.proofs.versions.Versions.take_back.Given as goal

abbrev pub invariant-loop-self : goal.invariant-loop-self
invariant-loop-self l = TakesOn l.count l.initial.self.log.items l.self.log.items l.initial.self.current.items l.self.current.items

abbrev pub decreases-loop-self : goal.decreases-loop-self
decreases-loop-self l = length l.self.log.items
