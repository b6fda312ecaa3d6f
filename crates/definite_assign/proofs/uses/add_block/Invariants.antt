use Rattle.std.proofs.Common.{◌+◌}
use Rattle.definite_assign.specs.FarUses.{AreFarUses}
use Rattle.definite_assign.proofs.uses.add_block.Given as goal

abbrev pub invariant-loop-index : goal.invariant-loop-index
invariant-loop-index l = AreFarUses l.func.content (l.start + l.index) l.uses.items
