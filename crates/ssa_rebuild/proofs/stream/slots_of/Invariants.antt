use Rattle.std.proofs.Common.{◌≡◌, map, take}
use Rattle.ssa_rebuild.specs.Answers.{number_of}
use Rattle.ssa_rebuild.proofs.stream.slots_of.Given as goal

abbrev pub invariant-loop-number : goal.invariant-loop-number
invariant-loop-number l = map number_of l.slots.items ≡ take l.number-index l.numbers
