use Rattle.std.proofs.Common.{◌≡◌, ◌++◌, drop}
use Rattle.std.specs.List.{flat_map}
use Rattle.map_bytes.specs.Maps.{function_bytes}
use Rattle.stackmap_write.specs.ModuleMaps.{entries_of}
use Rattle.stackmap_write.proofs.heads.put_entries.Given as goal

abbrev pub invariant-loop-func : goal.invariant-loop-func
invariant-loop-func l =
    l.bytes.items ++ flat_map function_bytes (entries_of (drop l.func l.layouts)) ≡ l.initial.bytes.items ++ flat_map function_bytes (entries_of l.layouts)
