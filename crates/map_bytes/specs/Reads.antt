-- The map that bytes are, each field by its place, whatever stands in reserved fields and wherever the bytes end.
use Rattle.std.specs.Prelude.{ℕ, zero, suc, ◌+◌, ◌*◌, ◌%◌, ◌==◌, if◌then◌else◌, List, [], ◌∷◌, drop}
use Rattle.std.specs.Int.{w32, cast_signed}
use Rattle.byteorder.specs.Endian.{little_number}
use Rattle.map_bytes.specs.declared.values.FuncEntry.{FuncEntry}
use Rattle.map_bytes.specs.declared.values.Place.{Place}
use Rattle.map_bytes.specs.Maps.{LiveOut, MapRecord, StackMap}

unfoldable pub function_read : List ℕ → FuncEntry
function_read bytes = record { address = little_number 8 bytes; frame_bytes = little_number 8 (drop 8 bytes); records = little_number 8 (drop 16 bytes) }

unfoldable pub functions_read : ℕ → List ℕ → List FuncEntry
functions_read zero bytes = []
functions_read (suc n) bytes = function_read bytes ∷ functions_read n (drop 24 bytes)

unfoldable pub constants_read : ℕ → List ℕ → List ℕ
constants_read zero bytes = []
constants_read (suc n) bytes = little_number 8 bytes ∷ constants_read n (drop 8 bytes)

unfoldable pub place_read : List ℕ → Place
place_read bytes = record {
  kind = little_number 1 bytes;
  size = little_number 2 (drop 2 bytes);
  register = little_number 2 (drop 4 bytes);
  offset = cast_signed w32 (little_number 4 (drop 8 bytes));
}

unfoldable pub places_read : ℕ → List ℕ → List Place
places_read zero bytes = []
places_read (suc n) bytes = place_read bytes ∷ places_read n (drop 12 bytes)

unfoldable pub live_out_read : List ℕ → LiveOut
live_out_read bytes = record { register = little_number 2 bytes; size = little_number 1 (drop 3 bytes) }

unfoldable pub live_outs_read : ℕ → List ℕ → List LiveOut
live_outs_read zero bytes = []
live_outs_read (suc n) bytes = live_out_read bytes ∷ live_outs_read n (drop 4 bytes)

-- how many bytes of padding stand behind so many
abbrev pub padding_size : ℕ → ℕ
padding_size bytes = if bytes % 8 == 0 then 0 else 4

-- how many bytes a record of so many locations has before the field that counts its live-outs, and a record has in all
abbrev pub places_end : ℕ → ℕ
places_end places = 16 + 12 * places + padding_size (16 + 12 * places)

abbrev pub record_size : ℕ → ℕ → ℕ
record_size places live_outs = places_end places + (4 + 4 * live_outs) + padding_size (4 + 4 * live_outs)

abbrev pub places_count : List ℕ → ℕ
places_count bytes = little_number 2 (drop 14 bytes)

abbrev pub live_outs_count : List ℕ → ℕ
live_outs_count bytes = little_number 2 (drop (places_end (places_count bytes) + 2) bytes)

unfoldable pub record_read : List ℕ → MapRecord
record_read bytes = record {
  id = little_number 8 bytes;
  offset = little_number 4 (drop 8 bytes);
  places = places_read (places_count bytes) (drop 16 bytes);
  live_outs = live_outs_read (live_outs_count bytes) (drop (places_end (places_count bytes) + 4) bytes);
}

-- how many bytes the record has that begins here
abbrev pub size_read : List ℕ → ℕ
size_read bytes = record_size (places_count bytes) (live_outs_count bytes)

unfoldable pub records_read : ℕ → List ℕ → List MapRecord
records_read zero bytes = []
records_read (suc n) bytes = record_read bytes ∷ records_read n (drop (size_read bytes) bytes)

-- where the constants and the records begin
abbrev pub constants_at : List ℕ → ℕ
constants_at bytes = 16 + 24 * little_number 4 (drop 4 bytes)

abbrev pub records_at : List ℕ → ℕ
records_at bytes = constants_at bytes + 8 * little_number 4 (drop 8 bytes)

unfoldable pub map_read : List ℕ → StackMap
map_read bytes = record {
  functions = functions_read (little_number 4 (drop 4 bytes)) (drop 16 bytes);
  constants = constants_read (little_number 4 (drop 8 bytes)) (drop (constants_at bytes) bytes);
  records = records_read (little_number 4 (drop 12 bytes)) (drop (records_at bytes) bytes);
}
