use Rattle.std.proofs.Common.{◌≡◌, ◌+◌, drop, length}
use Rattle.std.specs.List.{flat_map}
use Rattle.map_bytes.specs.Maps.{map_bytes, record_bytes}
use Rattle.stackmap_write.specs.Constants.{constants_of}
use Rattle.stackmap_write.specs.ModuleMaps.{map_of, records_of}
use Rattle.stackmap_write.proofs.sizes.map_size.Given as goal

abbrev pub invariant-loop-func : goal.invariant-loop-func
invariant-loop-func l =
    l.size + length (flat_map record_bytes (flat_map (records_of (constants_of l.module.content)) (drop l.func-index l.module.content.funcs))) ≡ length (map_bytes (map_of l.module.content))
