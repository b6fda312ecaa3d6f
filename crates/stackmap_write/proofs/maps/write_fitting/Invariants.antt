use Rattle.std.proofs.Common.{◌≡◌, ◌++◌, drop, length}
use Rattle.std.specs.List.{flat_map, AllByRecursion}
use Rattle.map_bytes.specs.Maps.{record_bytes}
use Rattle.map_bytes.specs.Fits.{RecordFits}
use Rattle.stackmap_write.specs.Constants.{constants_of}
use Rattle.stackmap_write.specs.ModuleMaps.{records_of}
use Rattle.stackmap_write.proofs.maps.write_fitting.Given as goal

abbrev pub invariant-loop-func : goal.invariant-loop-func
invariant-loop-func l =
    (l.bytes.items ++ flat_map record_bytes (flat_map (records_of (constants_of l.module.content)) (drop l.func-index l.module.content.funcs))
    ≡ l.initial.bytes.items ++ flat_map record_bytes (flat_map (records_of (constants_of l.module.content)) l.module.content.funcs))
    × AllByRecursion (RecordFits (length (constants_of l.module.content))) (flat_map (records_of (constants_of l.module.content)) (drop l.func-index l.module.content.funcs))
