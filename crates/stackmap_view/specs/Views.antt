-- What a view, a record that it lends and the records that are left show.
use Rattle.map_bytes.specs.Entries.{Entry}
use Rattle.map_bytes.specs.Reads.{record_read}
use Rattle.stackmap_view.specs.declared.records.RecordRef.{RecordRef}

-- a record, with what its function's entry says of it
abbrev pub seen : RecordRef → Entry
seen one = record { frame_bytes = one.frame_bytes; return_address = one.return_address; one = record_read one.bytes.now }
