use Rattle.std.proofs.Common.{◌≡◌, ◌+◌, drop, length}
use Rattle.std.specs.List.{flat_map}
use Rattle.stackmap_write.specs.ModuleMaps.{member_places}
use Rattle.stackmap_write.proofs.records.place_count.Given as goal

abbrev pub invariant-loop-inst : goal.invariant-loop-inst
invariant-loop-inst l = l.count + length (flat_map member_places (drop l.inst-index l.group)) ≡ 3 + l.deopts + length (flat_map member_places l.group)
