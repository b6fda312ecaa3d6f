use Rattle.std.proofs.Common.{◌≡◌, ◌≤◌, ◌+◌, ◌++◌, drop, length}
use Rattle.std.specs.List.{flat_map, AllByRecursion}
use Rattle.frame_forms.specs.BundleWords.{deopt_words_from}
use Rattle.map_bytes.specs.Maps.{place_bytes}
use Rattle.map_bytes.specs.Fits.{PlaceFits}
use Rattle.stackmap_write.specs.ModuleMaps.{deopt_places, places_by}
use Rattle.stackmap_write.proofs.records.put_deopts.Given as goal

abbrev pub invariant-loop-entry : goal.invariant-loop-entry
invariant-loop-entry l =
    (l.bytes.items ++ flat_map place_bytes (places_by l.constants.keys (drop l.entry-index l.entry-items) (deopt_words_from l.entries l.next (drop l.entry-index l.entry-items)))
    ≡ l.initial.bytes.items ++ flat_map place_bytes (deopt_places l.constants.keys l.call))
    × AllByRecursion (PlaceFits (length l.constants.keys)) (places_by l.constants.keys (drop l.entry-index l.entry-items) (deopt_words_from l.entries l.next (drop l.entry-index l.entry-items)))
    × (l.next ≤ length l.entries + l.entry-index)
