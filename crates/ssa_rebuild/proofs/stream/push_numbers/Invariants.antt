use Rattle.std.proofs.Common.{◌≡◌, ◌++◌, map, take}
use Rattle.ssa_rebuild.specs.Answers.{number_of}
use Rattle.ssa_rebuild.proofs.stream.push_numbers.Given as goal

abbrev pub invariant-loop-slot : goal.invariant-loop-slot
invariant-loop-slot l = l.numbers.items ≡ l.initial.numbers.items ++ map number_of (take l.slot-index l.slots)
