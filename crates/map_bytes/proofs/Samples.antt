-- The map of a module of two functions: an entry poll in each, and in the second one an allocation and a call over which one
-- pointer is live. What the definitions say of its bytes, and of bytes that go wrong.
use Rattle.std.proofs.Common.{◌≡◌, refl, ℕ, ◌+◌, List, [], ◌∷◌, ◌++◌, length, take, drop, Option, Some, None}
use Rattle.std.specs.Prelude.{pos}
use Rattle.map_bytes.specs.declared.rules.MapRule.{MapRule}
use Rattle.map_bytes.specs.declared.rules.MapRule.TheVariants.{Short, BadVersion, BadReserved, BadCount, BadKind, Trailing}
use Rattle.map_bytes.specs.declared.rules.MapFault.{MapFault}
use Rattle.map_bytes.specs.declared.values.Place.{Place}
use Rattle.map_bytes.specs.Formats.{laid}
use Rattle.map_bytes.specs.Tables.{padded, functions_then, constants_then, places_then, live_outs_then, record_then, records_then, behind_functions, map_format}
use Rattle.map_bytes.specs.Maps.{StackMap, MapRecord, map_bytes, map_numbers, record_numbers}
use Rattle.map_bytes.specs.Reads.{function_read, functions_read, constants_read, place_read, places_read, live_out_read, live_outs_read, record_read, records_read, map_read}
use Rattle.map_bytes.specs.Faults.{first_fault}

abbrev constant_0 : Place
constant_0 = record { kind = 4; size = 8; register = 0; offset = pos 0 }

abbrev slot_0 : Place
slot_0 = record { kind = 3; size = 8; register = 7; offset = pos 0 }

abbrev three : List Place
three = constant_0 ∷ constant_0 ∷ constant_0 ∷ []

abbrev plain : ℕ → List Place → MapRecord
plain offset pairs = record { id = 2882400000; offset = offset; places = three ++ pairs; live_outs = [] }

-- the map as a value
abbrev pub worked : StackMap
worked = record {
  functions = record { address = 4096; frame_bytes = 0; records = 1 } ∷ record { address = 4112; frame_bytes = 8; records = 3 } ∷ [];
  constants = [];
  records = plain 4 [] ∷ plain 4 [] ∷ plain 12 [] ∷ plain 28 (slot_0 ∷ slot_0 ∷ []) ∷ [];
}

-- its 344 bytes: the header, the two entries, the four records
abbrev pub worked_bytes : List ℕ
worked_bytes =
    3 ∷ 0 ∷ 0 ∷ 0 ∷ 2 ∷ 0 ∷ 0 ∷ 0 ∷ 0 ∷ 0 ∷ 0 ∷ 0 ∷ 4 ∷ 0 ∷ 0 ∷ 0
    ∷ 0 ∷ 16 ∷ 0 ∷ 0 ∷ 0 ∷ 0 ∷ 0 ∷ 0 ∷ 0 ∷ 0 ∷ 0 ∷ 0 ∷ 0 ∷ 0 ∷ 0 ∷ 0
    ∷ 1 ∷ 0 ∷ 0 ∷ 0 ∷ 0 ∷ 0 ∷ 0 ∷ 0
    ∷ 16 ∷ 16 ∷ 0 ∷ 0 ∷ 0 ∷ 0 ∷ 0 ∷ 0 ∷ 8 ∷ 0 ∷ 0 ∷ 0 ∷ 0 ∷ 0 ∷ 0 ∷ 0
    ∷ 3 ∷ 0 ∷ 0 ∷ 0 ∷ 0 ∷ 0 ∷ 0 ∷ 0
    ∷ 0 ∷ 239 ∷ 205 ∷ 171 ∷ 0 ∷ 0 ∷ 0 ∷ 0 ∷ 4 ∷ 0 ∷ 0 ∷ 0 ∷ 0 ∷ 0 ∷ 3 ∷ 0
    ∷ 4 ∷ 0 ∷ 8 ∷ 0 ∷ 0 ∷ 0 ∷ 0 ∷ 0 ∷ 0 ∷ 0 ∷ 0 ∷ 0 ∷ 4 ∷ 0 ∷ 8 ∷ 0
    ∷ 0 ∷ 0 ∷ 0 ∷ 0 ∷ 0 ∷ 0 ∷ 0 ∷ 0 ∷ 4 ∷ 0 ∷ 8 ∷ 0 ∷ 0 ∷ 0 ∷ 0 ∷ 0
    ∷ 0 ∷ 0 ∷ 0 ∷ 0 ∷ 0 ∷ 0 ∷ 0 ∷ 0 ∷ 0 ∷ 0 ∷ 0 ∷ 0 ∷ 0 ∷ 0 ∷ 0 ∷ 0
    ∷ 0 ∷ 239 ∷ 205 ∷ 171 ∷ 0 ∷ 0 ∷ 0 ∷ 0 ∷ 4 ∷ 0 ∷ 0 ∷ 0 ∷ 0 ∷ 0 ∷ 3 ∷ 0
    ∷ 4 ∷ 0 ∷ 8 ∷ 0 ∷ 0 ∷ 0 ∷ 0 ∷ 0 ∷ 0 ∷ 0 ∷ 0 ∷ 0 ∷ 4 ∷ 0 ∷ 8 ∷ 0
    ∷ 0 ∷ 0 ∷ 0 ∷ 0 ∷ 0 ∷ 0 ∷ 0 ∷ 0 ∷ 4 ∷ 0 ∷ 8 ∷ 0 ∷ 0 ∷ 0 ∷ 0 ∷ 0
    ∷ 0 ∷ 0 ∷ 0 ∷ 0 ∷ 0 ∷ 0 ∷ 0 ∷ 0 ∷ 0 ∷ 0 ∷ 0 ∷ 0 ∷ 0 ∷ 0 ∷ 0 ∷ 0
    ∷ 0 ∷ 239 ∷ 205 ∷ 171 ∷ 0 ∷ 0 ∷ 0 ∷ 0 ∷ 12 ∷ 0 ∷ 0 ∷ 0 ∷ 0 ∷ 0 ∷ 3 ∷ 0
    ∷ 4 ∷ 0 ∷ 8 ∷ 0 ∷ 0 ∷ 0 ∷ 0 ∷ 0 ∷ 0 ∷ 0 ∷ 0 ∷ 0 ∷ 4 ∷ 0 ∷ 8 ∷ 0
    ∷ 0 ∷ 0 ∷ 0 ∷ 0 ∷ 0 ∷ 0 ∷ 0 ∷ 0 ∷ 4 ∷ 0 ∷ 8 ∷ 0 ∷ 0 ∷ 0 ∷ 0 ∷ 0
    ∷ 0 ∷ 0 ∷ 0 ∷ 0 ∷ 0 ∷ 0 ∷ 0 ∷ 0 ∷ 0 ∷ 0 ∷ 0 ∷ 0 ∷ 0 ∷ 0 ∷ 0 ∷ 0
    ∷ 0 ∷ 239 ∷ 205 ∷ 171 ∷ 0 ∷ 0 ∷ 0 ∷ 0 ∷ 28 ∷ 0 ∷ 0 ∷ 0 ∷ 0 ∷ 0 ∷ 5 ∷ 0
    ∷ 4 ∷ 0 ∷ 8 ∷ 0 ∷ 0 ∷ 0 ∷ 0 ∷ 0 ∷ 0 ∷ 0 ∷ 0 ∷ 0 ∷ 4 ∷ 0 ∷ 8 ∷ 0
    ∷ 0 ∷ 0 ∷ 0 ∷ 0 ∷ 0 ∷ 0 ∷ 0 ∷ 0 ∷ 4 ∷ 0 ∷ 8 ∷ 0 ∷ 0 ∷ 0 ∷ 0 ∷ 0
    ∷ 0 ∷ 0 ∷ 0 ∷ 0 ∷ 3 ∷ 0 ∷ 8 ∷ 0 ∷ 7 ∷ 0 ∷ 0 ∷ 0 ∷ 0 ∷ 0 ∷ 0 ∷ 0
    ∷ 3 ∷ 0 ∷ 8 ∷ 0 ∷ 7 ∷ 0 ∷ 0 ∷ 0 ∷ 0 ∷ 0 ∷ 0 ∷ 0 ∷ 0 ∷ 0 ∷ 0 ∷ 0
    ∷ 0 ∷ 0 ∷ 0 ∷ 0 ∷ 0 ∷ 0 ∷ 0 ∷ 0
    ∷ []

worked_map : map_bytes worked ≡ worked_bytes
unfolding map_bytes laid map_format map_numbers record_numbers padded functions_then constants_then places_then live_outs_then record_then records_then behind_functions
worked_map = refl

worked_read : map_read worked_bytes ≡ worked
unfolding map_read function_read functions_read constants_read place_read places_read live_out_read live_outs_read record_read records_read
worked_read = refl

-- ---- faults

abbrev fault : List ℕ → Option MapFault
fault bytes = first_fault map_format (length bytes) bytes

abbrev at : ℕ → MapRule → Option MapFault
at place rule = Some (record { at = place; rule = rule })

-- the bytes with another one in a place
abbrev with_byte : ℕ → ℕ → List ℕ
with_byte place byte = take place worked_bytes ++ byte ∷ drop (place + 1) worked_bytes

no_fault : fault worked_bytes ≡ None
unfolding first_fault padded functions_then constants_then places_then live_outs_then record_then records_then behind_functions map_format
no_fault = refl

nothing : fault [] ≡ at 0 Short
unfolding first_fault padded functions_then constants_then places_then live_outs_then record_then records_then behind_functions map_format
nothing = refl

header_alone : fault (take 16 worked_bytes) ≡ at 16 Short
unfolding first_fault padded functions_then constants_then places_then live_outs_then record_then records_then behind_functions map_format
header_alone = refl

cut_in_a_record : fault (take 300 worked_bytes) ≡ at 300 Short
unfolding first_fault padded functions_then constants_then places_then live_outs_then record_then records_then behind_functions map_format
cut_in_a_record = refl

last_byte_missing : fault (take 343 worked_bytes) ≡ at 340 Short
unfolding first_fault padded functions_then constants_then places_then live_outs_then record_then records_then behind_functions map_format
last_byte_missing = refl

one_byte_more : fault (worked_bytes ++ 0 ∷ []) ≡ at 344 Trailing
unfolding first_fault padded functions_then constants_then places_then live_outs_then record_then records_then behind_functions map_format
one_byte_more = refl

version_4 : fault (with_byte 0 4) ≡ at 0 BadVersion
unfolding first_fault padded functions_then constants_then places_then live_outs_then record_then records_then behind_functions map_format
version_4 = refl

reserved_in_the_header : fault (with_byte 1 1) ≡ at 1 BadReserved
unfolding first_fault padded functions_then constants_then places_then live_outs_then record_then records_then behind_functions map_format
reserved_in_the_header = refl

reserved_in_a_location : fault (with_byte 81 1) ≡ at 81 BadReserved
unfolding first_fault padded functions_then constants_then places_then live_outs_then record_then records_then behind_functions map_format
reserved_in_a_location = refl

five_records : fault (with_byte 12 5) ≡ at 12 BadCount
unfolding first_fault padded functions_then constants_then places_then live_outs_then record_then records_then behind_functions map_format
five_records = refl

kind_9 : fault (with_byte 80 9) ≡ at 80 BadKind
unfolding first_fault padded functions_then constants_then places_then live_outs_then record_then records_then behind_functions map_format
kind_9 = refl

constant_not_there : fault (with_byte 308 5) ≡ at 316 BadCount
unfolding first_fault padded functions_then constants_then places_then live_outs_then record_then records_then behind_functions map_format
constant_not_there = refl

-- Two functions that count 2^63 records each, in a map of none: the sum isn't taken modulo 2^64.
abbrev many_counted : List ℕ
many_counted =
    3 ∷ 0 ∷ 0 ∷ 0 ∷ 2 ∷ 0 ∷ 0 ∷ 0 ∷ 0 ∷ 0 ∷ 0 ∷ 0 ∷ 0 ∷ 0 ∷ 0 ∷ 0
    ∷ 0 ∷ 0 ∷ 0 ∷ 0 ∷ 0 ∷ 0 ∷ 0 ∷ 0 ∷ 0 ∷ 0 ∷ 0 ∷ 0 ∷ 0 ∷ 0 ∷ 0 ∷ 0 ∷ 0 ∷ 0 ∷ 0 ∷ 0 ∷ 0 ∷ 0 ∷ 0 ∷ 128
    ∷ 0 ∷ 0 ∷ 0 ∷ 0 ∷ 0 ∷ 0 ∷ 0 ∷ 0 ∷ 0 ∷ 0 ∷ 0 ∷ 0 ∷ 0 ∷ 0 ∷ 0 ∷ 0 ∷ 0 ∷ 0 ∷ 0 ∷ 0 ∷ 0 ∷ 0 ∷ 0 ∷ 128
    ∷ []

sum_is_exact : fault many_counted ≡ at 12 BadCount
unfolding first_fault padded functions_then constants_then places_then live_outs_then record_then records_then behind_functions map_format
sum_is_exact = refl

-- the entry that is cut comes before the count that it would make wrong
cut_before_the_count : fault (take 63 many_counted) ≡ at 56 Short
unfolding first_fault padded functions_then constants_then places_then live_outs_then record_then records_then behind_functions map_format
cut_before_the_count = refl

-- as many functions, constants and records as there can be, and no byte of them
many_of_each : fault (3 ∷ 0 ∷ 0 ∷ 0 ∷ 255 ∷ 255 ∷ 255 ∷ 255 ∷ 255 ∷ 255 ∷ 255 ∷ 255 ∷ 255 ∷ 255 ∷ 255 ∷ 255 ∷ []) ≡ at 16 Short
unfolding first_fault padded functions_then constants_then places_then live_outs_then record_then records_then behind_functions map_format
many_of_each = refl
