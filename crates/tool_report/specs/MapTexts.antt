-- A stack map as text: a line for each function, for each of its records, and for each "deopt" location and each pair of a
-- record.
use Rattle.std.specs.Prelude.{ℕ, ℤ, ◌+◌, ◌==◌, if◌then◌else◌, List, [], ◌∷◌, ◌++◌, take, drop, codes, decimal, slice_index, unsigned_abs}
use Rattle.std.specs.List.{flat_map}
use Rattle.std.specs.Fmt.{signed_decimal}
use Rattle.std.specs.Int.{w32, cast_unsigned}
use Rattle.sp_ids.specs.Numbers.{signed}
use Rattle.map_bytes.specs.declared.values.FuncEntry.{FuncEntry}
use Rattle.map_bytes.specs.declared.values.Place.{Place}
use Rattle.map_bytes.specs.Entries.{Entry, entries}
use Rattle.map_bytes.specs.Maps.{StackMap}

unfoldable pub function_line : FuncEntry → List ℕ
function_line function =
    codes "function " ++ (decimal function.address ++ (codes " stack " ++ (decimal function.frame_bytes ++ (codes " records " ++ (decimal function.records ++ codes "\n")))))

unfoldable pub record_line : Entry → List ℕ
record_line entry = codes "record " ++ (decimal entry.return_address ++ (codes " id " ++ (decimal entry.one.id ++ codes "\n")))

-- the slots of a base and of what is derived from it
unfoldable pub pair_line : Place → Place → List ℕ
pair_line base derived = codes "pair " ++ (signed_decimal base.offset ++ (codes " " ++ (signed_decimal derived.offset ++ codes "\n")))

abbrev pub pair_lines : List Place → List ℕ
pair_lines [] = []
pair_lines (base ∷ []) = []
pair_lines (base ∷ derived ∷ places) = pair_line base derived ++ pair_lines places

unfoldable pub number_line : ℤ → List ℕ
number_line number = codes "deopt " ++ (signed_decimal number ++ codes "\n")

unfoldable pub kept_line : ℤ → List ℕ
kept_line offset = codes "deopt slot " ++ (signed_decimal offset ++ codes "\n")

-- a constant is the number itself, or its place among the map's constants
abbrev pub location_line : List ℕ → Place → List ℕ
location_line constants place =
    if place.kind == 4 then number_line place.offset
    else if place.kind == 5 then number_line (signed 64 (slice_index constants (cast_unsigned w32 place.offset)))
    else kept_line place.offset

abbrev pub location_lines : List ℕ → List Place → List ℕ
location_lines constants places = flat_map (location_line constants) places

-- where the pairs begin: behind three constants, of which the third is the number of "deopt" locations
abbrev pub pairs_at : List Place → ℕ
pairs_at (one ∷ two ∷ three ∷ rest) = 3 + unsigned_abs three.offset
pairs_at _ = 3

-- in a map of these constants
abbrev pub record_text : List ℕ → Entry → List ℕ
record_text constants entry =
    record_line entry
    ++ (location_lines constants (drop 3 (take (pairs_at entry.one.places) entry.one.places)) ++ pair_lines (drop (pairs_at entry.one.places) entry.one.places))

-- functions, each with the records that it counts
abbrev pub lines_of : List ℕ → List FuncEntry → List Entry → List ℕ
lines_of constants [] found = []
lines_of constants (function ∷ functions) found =
    function_line function ++ (flat_map (record_text constants) (take function.records found) ++ lines_of constants functions (drop function.records found))

abbrev pub text_of_map : StackMap → List ℕ
text_of_map map = lines_of map.constants map.functions (entries map)
