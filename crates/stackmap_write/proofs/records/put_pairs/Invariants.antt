use Rattle.std.proofs.Common.{◌≡◌, ◌++◌, drop}
use Rattle.std.specs.List.{flat_map, AllByRecursion}
use Rattle.map_bytes.specs.Maps.{place_bytes}
use Rattle.map_bytes.specs.Fits.{PlaceFits}
use Rattle.stackmap_write.specs.ModuleMaps.{member_places}
use Rattle.stackmap_write.proofs.records.put_pairs.Given as goal

abbrev pub invariant-loop-inst : goal.invariant-loop-inst
invariant-loop-inst l =
    (l.bytes.items ++ flat_map place_bytes (flat_map member_places (drop l.inst-index l.group))
    ≡ l.initial.bytes.items ++ flat_map place_bytes (flat_map member_places l.group))
    × AllByRecursion (PlaceFits 0) (flat_map member_places (drop l.inst-index l.group))
