-- Stack maps as values, their numbers in the order of the fields, and the bytes of these.
use Rattle.std.specs.Prelude.{◌≡◌, ℕ, ◌+◌, ◌*◌, ◌%◌, ◌==◌, if◌then◌else◌, List, [], ◌∷◌, ◌++◌, length, FitsSigned}
use Rattle.std.specs.List.{flat_map, AllByRecursion}
use Rattle.std.specs.Int.{w32, cast_unsigned}
use Rattle.byteorder.specs.Endian.{little_bytes}
use Rattle.map_bytes.specs.declared.values.FuncEntry.{FuncEntry}
use Rattle.map_bytes.specs.declared.values.Place.{Place}
use Rattle.map_bytes.specs.Formats.{laid, Fills, ends}
use Rattle.map_bytes.specs.Tables.{map_format, record_then}

-- a register that is live behind a record's call, and the bytes of it that are
pub record LiveOut : Type 0 where
  pub register : ℕ
  pub size : ℕ

-- a record: its id, the offset of its return address from the function's address, its locations and live-outs
pub record MapRecord : Type 0 where
  pub id : ℕ
  pub offset : ℕ
  pub places : List Place
  pub live_outs : List LiveOut

-- a stack map: records belong to the functions in order, as many as each counts
pub record StackMap : Type 0 where
  pub functions : List FuncEntry
  pub constants : List ℕ
  pub records : List MapRecord

-- ---- the numbers of the fields, zeros of reserved fields and of padding among them

abbrev pub function_numbers : FuncEntry → List ℕ
function_numbers function = function.address ∷ function.frame_bytes ∷ function.records ∷ []

abbrev pub place_numbers : Place → List ℕ
place_numbers place = place.kind ∷ 0 ∷ place.size ∷ place.register ∷ 0 ∷ cast_unsigned w32 place.offset ∷ []

abbrev pub live_out_numbers : LiveOut → List ℕ
live_out_numbers live = live.register ∷ 0 ∷ live.size ∷ []

abbrev pub padding_numbers : ℕ → List ℕ
padding_numbers bytes = if bytes % 8 == 0 then [] else 0 ∷ []

unfoldable pub record_numbers : MapRecord → List ℕ
record_numbers one =
    one.id ∷ one.offset ∷ 0 ∷ length one.places ∷ (flat_map place_numbers one.places ++ (padding_numbers (16 + 12 * length one.places)
    ++ (0 ∷ length one.live_outs ∷ (flat_map live_out_numbers one.live_outs ++ padding_numbers (4 + 4 * length one.live_outs)))))

unfoldable pub map_numbers : StackMap → List ℕ
map_numbers map =
    3 ∷ 0 ∷ 0 ∷ length map.functions ∷ length map.constants ∷ length map.records
    ∷ (flat_map function_numbers map.functions ++ (map.constants ++ flat_map record_numbers map.records))

-- ---- bytes

-- a record by itself; its bytes don't depend on how many constants the map has
unfoldable pub record_bytes : MapRecord → List ℕ
record_bytes one = laid (record_then 0 ends) (record_numbers one)

unfoldable pub map_bytes : StackMap → List ℕ
map_bytes map = laid map_format (map_numbers map)

-- ---- the bytes of parts

unfoldable pub function_bytes : FuncEntry → List ℕ
function_bytes function = little_bytes 8 function.address ++ (little_bytes 8 function.frame_bytes ++ little_bytes 8 function.records)

unfoldable pub place_bytes : Place → List ℕ
place_bytes place =
    little_bytes 1 place.kind ++ (little_bytes 1 0 ++ (little_bytes 2 place.size
    ++ (little_bytes 2 place.register ++ (little_bytes 2 0 ++ little_bytes 4 (cast_unsigned w32 place.offset)))))

unfoldable pub live_out_bytes : LiveOut → List ℕ
live_out_bytes live = little_bytes 2 live.register ++ (little_bytes 1 0 ++ little_bytes 1 live.size)

abbrev pub padding_bytes : ℕ → List ℕ
padding_bytes bytes = if bytes % 8 == 0 then [] else little_bytes 4 0

-- a record and what stands behind it
unfoldable pub record_bytes_then : MapRecord → List ℕ → List ℕ
record_bytes_then one rest =
    little_bytes 8 one.id ++ (little_bytes 4 one.offset ++ (little_bytes 2 0 ++ (little_bytes 2 (length one.places)
    ++ (flat_map place_bytes one.places ++ (padding_bytes (16 + 12 * length one.places) ++ (little_bytes 2 0
    ++ (little_bytes 2 (length one.live_outs) ++ (flat_map live_out_bytes one.live_outs ++ (padding_bytes (4 + 4 * length one.live_outs) ++ rest)))))))))

unfoldable pub header_bytes : StackMap → List ℕ
header_bytes map =
    little_bytes 1 3 ++ (little_bytes 1 0 ++ (little_bytes 2 0 ++ (little_bytes 4 (length map.functions)
    ++ (little_bytes 4 (length map.constants) ++ little_bytes 4 (length map.records)))))

-- ---- maps

-- how many records the functions count together
abbrev pub counted_records : List FuncEntry → ℕ
counted_records [] = 0
counted_records (function ∷ functions) = function.records + counted_records functions

-- every number of the map is allowed in its field, and every offset of a location is a number of 32 bits with a sign
pub record IsMap (map : StackMap) : Type 0 where
  pub fills : Fills map_format (map_numbers map)
  pub signed : AllByRecursion (λ one. AllByRecursion (λ place. FitsSigned w32 place.offset) one.places) map.records

-- bytes are this map
pub record IsMapOf (bytes : List ℕ) (map : StackMap) : Type 0 where
  pub allowed : IsMap map
  pub spelled : bytes ≡ map_bytes map
