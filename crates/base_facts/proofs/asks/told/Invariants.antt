use Rattle.std.proofs.Common.{◌≡◌, map, take}
use Rattle.base_facts.specs.Found.{told_by}
use Rattle.base_facts.proofs.asks.told.Given as goal

abbrev pub invariant-loop-one : goal.invariant-loop-one
invariant-loop-one l = l.answers.items ≡ map (told_by l.marks) (take l.one-index l.found)
