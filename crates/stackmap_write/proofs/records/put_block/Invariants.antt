use Rattle.std.proofs.Common.{◌≡◌, ◌+◌, ◌++◌, drop, length}
use Rattle.std.specs.List.{flat_map, AllByRecursion}
use Rattle.map_bytes.specs.Maps.{record_bytes}
use Rattle.map_bytes.specs.Fits.{RecordFits}
use Rattle.stackmap_write.specs.ModuleMaps.{records_from}
use Rattle.stackmap_write.proofs.records.put_block.Given as goal

abbrev pub invariant-loop-index : goal.invariant-loop-index
invariant-loop-index l =
    (l.bytes.items ++ flat_map record_bytes (records_from l.constants.keys (l.first + l.index) (drop l.index l.insts))
    ≡ l.initial.bytes.items ++ flat_map record_bytes (records_from l.constants.keys l.first l.insts))
    × AllByRecursion (RecordFits (length l.constants.keys)) (records_from l.constants.keys (l.first + l.index) (drop l.index l.insts))
