use Rattle.std.proofs.Common.{◌≡◌, ◌+◌, drop}
use Rattle.stackmap_write.specs.Sizes.{records_size}
use Rattle.stackmap_write.proofs.sizes.block_size.Given as goal

abbrev pub invariant-loop-index : goal.invariant-loop-index
invariant-loop-index l = l.size + records_size (drop l.index l.insts) ≡ records_size l.insts
