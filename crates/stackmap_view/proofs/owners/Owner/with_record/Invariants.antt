use Rattle.std.proofs.Common.{◌≡◌, List}
use Rattle.map_bytes.specs.Maps.{MapRecord, counted_records}
use Rattle.map_bytes.specs.Entries.{entries_of}
use Rattle.stackmap_view.specs.Owners.{owned}
use Rattle.stackmap_view.proofs.owners.Owner.with_record.Given as goal

abbrev pub invariant-skipping : goal.invariant-skipping
invariant-skipping l =
    ((records : List MapRecord) → entries_of (owned l.current) records ≡ entries_of (owned l.self) records) × (counted_records (owned l.current) ≡ counted_records (owned l.self))

abbrev pub decreases-skipping : goal.decreases-skipping
decreases-skipping l = l.current.functions_left
