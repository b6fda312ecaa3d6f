-- A map as a list of records.
use Rattle.std.specs.Prelude.{ℕ, ◌==◌, List, take, Option}
use Rattle.std.specs.List.{find}
use Rattle.std.specs.Option.{option_map}
use Rattle.frame_walk.specs.Maps.{FrameEntry}
use Rattle.test_heaps.specs.declared.maps.Listing.{Listing}

-- a record has at most 65,535 locations
abbrev pub entry_of : Listing → FrameEntry
entry_of listing = record { frame_bytes = listing.frame_bytes; places = take 65535 listing.places.items }

-- the first record with a return address
abbrev pub found_listed : List Listing → ℕ → Option FrameEntry
found_listed listings address = option_map entry_of (find (λ one. one.address == address) listings)
