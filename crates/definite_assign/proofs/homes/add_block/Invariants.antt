use Rattle.std.proofs.Common.{◌+◌}
use Rattle.definite_assign.specs.Homes.{AreHomes}
use Rattle.definite_assign.proofs.homes.add_block.Given as goal

abbrev pub invariant-loop-index : goal.invariant-loop-index
invariant-loop-index l = AreHomes l.func.content (l.start + l.index) l.homes.items
