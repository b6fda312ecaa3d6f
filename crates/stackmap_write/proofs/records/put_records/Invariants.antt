use Rattle.std.proofs.Common.{◌≡◌, ◌+◌, ◌++◌, drop, length}
use Rattle.std.specs.List.{flat_map, AllByRecursion}
use Rattle.ir_ast.specs.Funcs.{instructions_of}
use Rattle.map_bytes.specs.Maps.{record_bytes}
use Rattle.map_bytes.specs.Fits.{RecordFits}
use Rattle.stackmap_write.specs.ModuleMaps.{records_from, records_of}
use Rattle.stackmap_write.proofs.records.put_records.Given as goal

abbrev pub invariant-loop-block : goal.invariant-loop-block
invariant-loop-block l =
    (l.bytes.items ++ flat_map record_bytes (records_from l.constants.keys l.place (instructions_of (drop l.block-index l.block-items)))
    ≡ l.initial.bytes.items ++ flat_map record_bytes (records_of l.constants.keys l.fn.func.content))
    × (l.place + length (instructions_of (drop l.block-index l.block-items)) ≡ length (instructions_of l.fn.func.content.blocks))
    × AllByRecursion (RecordFits (length l.constants.keys)) (records_from l.constants.keys l.place (instructions_of (drop l.block-index l.block-items)))
