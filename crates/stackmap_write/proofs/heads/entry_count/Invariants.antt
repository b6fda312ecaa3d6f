use Rattle.std.proofs.Common.{◌≡◌, ◌+◌, drop, length}
use Rattle.stackmap_write.specs.ModuleMaps.{entries_of}
use Rattle.stackmap_write.proofs.heads.entry_count.Given as goal

abbrev pub invariant-loop-func : goal.invariant-loop-func
invariant-loop-func l = l.count + length (entries_of (drop l.func l.layouts)) ≡ length (entries_of l.layouts)
