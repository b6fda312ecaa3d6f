use Rattle.std.proofs.Common.{◌≡◌, drop, fold}
use Rattle.std.specs.List.{flat_map}
use Rattle.stackmap_write.specs.Constants.{entry_number, large_number, with_constant}
use Rattle.stackmap_write.proofs.constants.add_entries.Given as goal

abbrev pub invariant-loop-entry : goal.invariant-loop-entry
invariant-loop-entry l =
    fold with_constant l.constants.keys (flat_map (λ entry. large_number (entry_number entry.0 entry.1)) (drop l.entry-index l.bundle))
    ≡ fold with_constant l.initial.constants.keys (flat_map (λ entry. large_number (entry_number entry.0 entry.1)) l.bundle)
