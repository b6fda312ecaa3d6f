-- A place among the functions of a map: the one whose records are read, with how many are left, and those behind it.
use Rattle.std.specs.Prelude.{List, ◌∷◌}
use Rattle.map_bytes.specs.declared.values.FuncEntry.{FuncEntry}
use Rattle.map_bytes.specs.Reads.{functions_read}
use Rattle.stackmap_view.specs.declared.owners.Owner.{Owner}

abbrev pub owner_entry : Owner → FuncEntry
owner_entry owner = record { address = owner.address; frame_bytes = owner.frame_bytes; records = owner.left }

abbrev pub owned : Owner → List FuncEntry
owned owner = owner_entry owner ∷ functions_read owner.functions_left owner.functions.now
