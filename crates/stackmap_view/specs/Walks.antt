-- The records that are left of a walk over a map.
use Rattle.std.specs.Prelude.{List}
use Rattle.map_bytes.specs.Entries.{Entry, entries_of}
use Rattle.map_bytes.specs.Reads.{records_read}
use Rattle.stackmap_view.specs.declared.walk.Records.{Records}
use Rattle.stackmap_view.specs.Owners.{owned}

abbrev pub records_left : Records → List Entry
records_left walk = entries_of (owned walk.owner) (records_read walk.count walk.records.now)
