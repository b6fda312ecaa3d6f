use Rattle.std.proofs.Common.{◌≡◌, ◌+◌, drop}
use Rattle.map_bytes.specs.Maps.{counted_records}
use Rattle.stackmap_write.specs.ModuleMaps.{entries_of}
use Rattle.stackmap_write.proofs.heads.record_count.Given as goal

abbrev pub invariant-loop-func : goal.invariant-loop-func
invariant-loop-func l = l.count + counted_records (entries_of (drop l.func l.layouts)) ≡ counted_records (entries_of l.layouts)
