-- Reading the bytes of a map by place gives the map.
use Rattle.std.proofs.Common.{◌≡◌, ℕ, suc, ◌+◌, ◌*◌, ◌%◌, ◌^◌, ◌<◌, ◌≤◌, FitsSigned, Bool, true, false, cond, eqb, List, [], ◌∷◌, ◌++◌, length, drop, refl, sym, ap, ◌∙◌, append_assoc, arith}
use Rattle.std.proofs.lemmas.Int.{to_z-of_z}
use Rattle.std.proofs.lemmas.List.{append-nil, drop_at, drop-drop, length-append}
use Rattle.std.specs.List.{flat_map, AllByRecursion}
use Rattle.std.specs.Int.{w32, cast_signed, cast_unsigned}
use Rattle.byteorder.specs.Endian.{little_bytes, little_number}
use Rattle.byteorder.specs.Numbers.{little_number-reads_back}
use Rattle.map_bytes.specs.declared.values.FuncEntry.{FuncEntry}
use Rattle.map_bytes.specs.declared.values.Place.{Place}
use Rattle.map_bytes.specs.Maps.{LiveOut, MapRecord, StackMap, record_bytes, map_bytes, function_bytes, place_bytes, live_out_bytes, padding_bytes, record_bytes_then, header_bytes}
use Rattle.map_bytes.specs.Reads.{function_read, functions_read, constants_read, place_read, places_read, live_out_read, live_outs_read, padding_size, places_end, record_size, places_count, live_outs_count, record_read, size_read, records_read, constants_at, records_at, map_read}
use Rattle.map_bytes.specs.Fits.{FunctionFits, PlaceFits, LiveOutFits, RecordFits, MapFits}
use Rattle.map_bytes.proofs.PartLaws.{record_bytes-then, map_bytes-parts}
use Rattle.map_bytes.proofs.FitsLaws.{unsigned-fits}

-- ---- functions

entry : ℕ → ℕ → ℕ → FuncEntry
entry a b c = record { address = a; frame_bytes = b; records = c }

pub function-back : (one : FuncEntry) (rest : List ℕ) → FunctionFits one → function_read (function_bytes one ++ rest) ≡ one
unfolding function_read function_bytes entry
function-back one rest fit =
    let c : List ℕ = little_bytes 8 one.records ++ rest in
    let b : List ℕ = little_bytes 8 one.frame_bytes ++ c in
    let first : little_number 8 (little_bytes 8 one.address ++ b) ≡ one.address = little_number-reads_back 8 one.address b fit.address in
    let second : little_number 8 b ≡ one.frame_bytes = little_number-reads_back 8 one.frame_bytes c fit.frame_bytes in
    let third : little_number 8 c ≡ one.records = little_number-reads_back 8 one.records rest fit.records in
    ap (λ (x : ℕ). entry x (little_number 8 b) (little_number 8 c)) first ∙ ap (λ (x : ℕ). entry one.address x (little_number 8 c)) second ∙ ap (λ (x : ℕ). entry one.address one.frame_bytes x) third

pub functions-back : (functions : List FuncEntry) (rest : List ℕ) → AllByRecursion FunctionFits functions → functions_read (length functions) (flat_map function_bytes functions ++ rest) ≡ functions
unfolding functions_read function_bytes
functions-back [] rest fit = refl
functions-back (f ∷ fs) rest fit =
    let behind : List ℕ = flat_map function_bytes fs ++ rest in
    let head : function_read (function_bytes f ++ behind) ≡ f = function-back f behind fit.0 in
    ap (λ (x : FuncEntry). x ∷ functions_read (length fs) behind) head ∙ ap (λ (xs : List FuncEntry). f ∷ xs) (functions-back fs rest fit.1)

pub length-functions : (functions : List FuncEntry) → length (flat_map function_bytes functions) ≡ 24 * length functions
unfolding function_bytes
length-functions [] = refl
length-functions (f ∷ fs) = omega (arith, length-functions fs)

-- ---- constants

pub constants-back : (constants rest : List ℕ) → AllByRecursion (λ c. c < 2 ^ 64) constants → constants_read (length constants) (flat_map (little_bytes 8) constants ++ rest) ≡ constants
unfolding constants_read
constants-back [] rest fit = refl
constants-back (c ∷ cs) rest fit =
    let behind : List ℕ = flat_map (little_bytes 8) cs ++ rest in
    let head : little_number 8 (little_bytes 8 c ++ behind) ≡ c = little_number-reads_back 8 c behind fit.0 in
    ap (λ (x : ℕ). x ∷ constants_read (length cs) behind) head ∙ ap (λ (xs : List ℕ). c ∷ xs) (constants-back cs rest fit.1)

pub length-constants : (constants : List ℕ) → length (flat_map (little_bytes 8) constants) ≡ 8 * length constants
length-constants [] = refl
length-constants (c ∷ cs) = omega (arith, length-constants cs)

-- ---- locations

-- the numbers of a location fit in its fields
pub record PlaceSmall (place : Place) : Type 0 where
  pub kind : place.kind < 2 ^ 8
  pub size : place.size < 2 ^ 16
  pub register : place.register < 2 ^ 16
  pub offset : FitsSigned w32 place.offset

-- and so do those of a record
pub record RecordSmall (one : MapRecord) : Type 0 where
  pub id : one.id < 2 ^ 64
  pub offset : one.offset < 2 ^ 32
  pub few_places : length one.places < 2 ^ 16
  pub few_live_outs : length one.live_outs < 2 ^ 16
  pub places : AllByRecursion PlaceSmall one.places
  pub live_outs : AllByRecursion LiveOutFits one.live_outs

places-small : (constants : ℕ) (places : List Place) → AllByRecursion (PlaceFits constants) places → AllByRecursion PlaceSmall places
places-small constants [] fit = tt
places-small constants (p ∷ ps) fit =
    let high : p.kind ≤ 5 = fit.0.kind_high in
    (record { kind = omega arith; size = fit.0.size; register = fit.0.register; offset = fit.0.offset }, places-small constants ps fit.1)

pub record-small : (constants : ℕ) (one : MapRecord) → RecordFits constants one → RecordSmall one
record-small constants one fit = record {
  id = fit.id;
  offset = fit.offset;
  few_places = fit.few_places;
  few_live_outs = fit.few_live_outs;
  places = places-small constants one.places fit.places;
  live_outs = fit.live_outs;
}

records-small : (constants : ℕ) (records : List MapRecord) → AllByRecursion (RecordFits constants) records → AllByRecursion RecordSmall records
records-small constants [] fit = tt
records-small constants (r ∷ rs) fit = (record-small constants r fit.0, records-small constants rs fit.1)

place_of : ℕ → ℕ → ℕ → ℕ → Place
place_of kind size register offset = record { kind = kind; size = size; register = register; offset = cast_signed w32 offset }

pub place-back : (one : Place) (rest : List ℕ) → PlaceSmall one → place_read (place_bytes one ++ rest) ≡ one
unfolding place_read place_bytes place_of
place-back one rest fit =
    let unsigned = cast_unsigned w32 one.offset in
    let d : List ℕ = little_bytes 4 unsigned ++ rest in
    let c : List ℕ = little_bytes 2 one.register ++ (little_bytes 2 0 ++ d) in
    let b : List ℕ = little_bytes 2 one.size ++ c in
    let a : List ℕ = little_bytes 1 one.kind ++ (little_bytes 1 0 ++ b) in
    let small : one.kind < 256 ^ 1 = fit.kind in
    let first : little_number 1 a ≡ one.kind = little_number-reads_back 1 one.kind (little_bytes 1 0 ++ b) small in
    let second : little_number 2 b ≡ one.size = little_number-reads_back 2 one.size c fit.size in
    let third : little_number 2 c ≡ one.register = little_number-reads_back 2 one.register (little_bytes 2 0 ++ d) fit.register in
    let fourth : little_number 4 d ≡ unsigned = little_number-reads_back 4 unsigned rest (unsigned-fits one.offset fit.offset) in
    ap (λ (x : ℕ). place_of x (little_number 2 b) (little_number 2 c) (little_number 4 d)) first
    ∙ ap (λ (x : ℕ). place_of one.kind x (little_number 2 c) (little_number 4 d)) second
    ∙ ap (λ (x : ℕ). place_of one.kind one.size x (little_number 4 d)) third
    ∙ ap (λ (x : ℕ). place_of one.kind one.size one.register x) fourth
    ∙ ap (λ (x : _). let made : Place = record { kind = one.kind; size = one.size; register = one.register; offset = x } in made) (to_z-of_z w32 one.offset fit.offset)

pub places-back : (places : List Place) (rest : List ℕ) → AllByRecursion PlaceSmall places → places_read (length places) (flat_map place_bytes places ++ rest) ≡ places
unfolding places_read place_bytes
places-back [] rest fit = refl
places-back (p ∷ ps) rest fit =
    let behind : List ℕ = flat_map place_bytes ps ++ rest in
    let head : place_read (place_bytes p ++ behind) ≡ p = place-back p behind fit.0 in
    ap (λ (x : Place). x ∷ places_read (length ps) behind) head ∙ ap (λ (xs : List Place). p ∷ xs) (places-back ps rest fit.1)

pub length-places : (places : List Place) → length (flat_map place_bytes places) ≡ 12 * length places
unfolding place_bytes
length-places [] = refl
length-places (p ∷ ps) = omega (arith, length-places ps)

-- ---- live-outs

live_of : ℕ → ℕ → LiveOut
live_of register size = record { register = register; size = size }

live_out-back : (one : LiveOut) (rest : List ℕ) → LiveOutFits one → live_out_read (live_out_bytes one ++ rest) ≡ one
unfolding live_out_read live_out_bytes live_of
live_out-back one rest fit =
    let b : List ℕ = little_bytes 1 one.size ++ rest in
    let a : List ℕ = little_bytes 2 one.register ++ (little_bytes 1 0 ++ b) in
    let first : little_number 2 a ≡ one.register = little_number-reads_back 2 one.register (little_bytes 1 0 ++ b) fit.register in
    let second : little_number 1 b ≡ one.size = little_number-reads_back 1 one.size rest fit.size in
    ap (λ (x : ℕ). live_of x (little_number 1 b)) first ∙ ap (λ (x : ℕ). live_of one.register x) second

pub live_outs-back : (live : List LiveOut) (rest : List ℕ) → AllByRecursion LiveOutFits live → live_outs_read (length live) (flat_map live_out_bytes live ++ rest) ≡ live
unfolding live_outs_read live_out_bytes
live_outs-back [] rest fit = refl
live_outs-back (l ∷ ls) rest fit =
    let behind : List ℕ = flat_map live_out_bytes ls ++ rest in
    let head : live_out_read (live_out_bytes l ++ behind) ≡ l = live_out-back l behind fit.0 in
    ap (λ (x : LiveOut). x ∷ live_outs_read (length ls) behind) head ∙ ap (λ (xs : List LiveOut). l ∷ xs) (live_outs-back ls rest fit.1)

length-live_outs : (live : List LiveOut) → length (flat_map live_out_bytes live) ≡ 4 * length live
unfolding live_out_bytes
length-live_outs [] = refl
length-live_outs (l ∷ ls) = omega (arith, length-live_outs ls)

-- ---- records

length-padding : (aligned : Bool) → length (cond aligned [] (little_bytes 4 0)) ≡ cond aligned 0 4
length-padding true = refl
length-padding false = refl

-- what stands in a record before the field that counts its live-outs
before_live_outs : MapRecord → List ℕ
before_live_outs one =
    little_bytes 8 one.id ++ (little_bytes 4 one.offset ++ (little_bytes 2 0 ++ (little_bytes 2 (length one.places) ++ (flat_map place_bytes one.places ++ padding_bytes (16 + 12 * length one.places)))))

from_live_outs : MapRecord → List ℕ → List ℕ
from_live_outs one rest = little_bytes 2 0 ++ (little_bytes 2 (length one.live_outs) ++ (flat_map live_out_bytes one.live_outs ++ (padding_bytes (4 + 4 * length one.live_outs) ++ rest)))

regroup : (a b c d e f rest : List ℕ) → a ++ (b ++ (c ++ (d ++ (e ++ (f ++ rest))))) ≡ (a ++ (b ++ (c ++ (d ++ (e ++ f))))) ++ rest
regroup a b c d e f rest = simp append_assoc

record-halves : (one : MapRecord) (rest : List ℕ) → record_bytes_then one rest ≡ before_live_outs one ++ from_live_outs one rest
unfolding record_bytes_then before_live_outs from_live_outs
record-halves one rest =
    regroup (little_bytes 8 one.id) (little_bytes 4 one.offset) (little_bytes 2 0) (little_bytes 2 (length one.places)) (flat_map place_bytes one.places) (padding_bytes (16 + 12 * length one.places)) (from_live_outs one rest)

length-before : (one : MapRecord) → length (before_live_outs one) ≡ places_end (length one.places)
unfolding before_live_outs
length-before one =
    let n = length one.places in
    omega (arith, length-append (flat_map place_bytes one.places) (padding_bytes (16 + 12 * n)), length-places one.places, length-padding (eqb ((16 + 12 * n) % 8) 0))

length-from : (one : MapRecord) (rest : List ℕ) → length (from_live_outs one rest) ≡ 4 + 4 * length one.live_outs + padding_size (4 + 4 * length one.live_outs) + length rest
unfolding from_live_outs
length-from one rest =
    let l = length one.live_outs in
    omega (
      arith,
      length-append (flat_map live_out_bytes one.live_outs) (padding_bytes (4 + 4 * l) ++ rest),
      length-append (padding_bytes (4 + 4 * l)) rest,
      length-live_outs one.live_outs,
      length-padding (eqb ((4 + 4 * l) % 8) 0),
    )

-- how many bytes a record has
pub length-record : (one : MapRecord) → length (record_bytes one) ≡ record_size (length one.places) (length one.live_outs)
length-record one =
    let whole : record_bytes one ≡ before_live_outs one ++ from_live_outs one [] = sym (append-nil (record_bytes one)) ∙ sym (record_bytes-then one []) ∙ record-halves one [] in
    ap length whole ∙ omega (arith, length-append (before_live_outs one) (from_live_outs one []), length-before one, length-from one [])

-- the fields of a record and what they count
pub record ReadsRecord (one : MapRecord) (bytes rest : List ℕ) : Type 0 where
  pub places : places_count bytes ≡ length one.places
  pub live_outs : live_outs_count bytes ≡ length one.live_outs
  pub read : record_read bytes ≡ one
  pub size : size_read bytes ≡ length (record_bytes one)
  pub behind : drop (size_read bytes) bytes ≡ rest

record_of : ℕ → ℕ → List Place → List LiveOut → MapRecord
record_of id offset places live_outs = record { id = id; offset = offset; places = places; live_outs = live_outs }

record-parts : (one : MapRecord) (bytes rest : List ℕ) → RecordSmall one → bytes ≡ record_bytes_then one rest → record_bytes one ++ rest ≡ bytes → ReadsRecord one bytes rest
unfolding record_read record_bytes_then record_of from_live_outs
record-parts one bytes rest fit is whole =
    let n = length one.places in
    let l = length one.live_outs in
    let last : List ℕ = padding_bytes (4 + 4 * l) ++ rest in
    let lives : List ℕ = flat_map live_out_bytes one.live_outs ++ last in
    let tail : List ℕ = little_bytes 2 0 ++ (little_bytes 2 l ++ lives) in
    let places : List ℕ = flat_map place_bytes one.places ++ (padding_bytes (16 + 12 * n) ++ tail) in
    let d : List ℕ = little_bytes 2 n ++ places in
    let c : List ℕ = little_bytes 4 one.offset ++ (little_bytes 2 0 ++ d) in
    let at0 : little_number 8 bytes ≡ one.id = ap (little_number 8) is ∙ little_number-reads_back 8 one.id c fit.id in
    let at8 : little_number 4 (drop 8 bytes) ≡ one.offset = ap (λ (x : List ℕ). little_number 4 (drop 8 x)) is ∙ little_number-reads_back 4 one.offset (little_bytes 2 0 ++ d) fit.offset in
    let at14 : places_count bytes ≡ n = ap places_count is ∙ little_number-reads_back 2 n places fit.few_places in
    let at16 : places_read n (drop 16 bytes) ≡ one.places = ap (λ (x : List ℕ). places_read n (drop 16 x)) is ∙ places-back one.places (padding_bytes (16 + 12 * n) ++ tail) fit.places in
    let middle : drop (places_end n) bytes ≡ tail = ap (drop (places_end n)) (is ∙ record-halves one rest) ∙ drop_at (before_live_outs one) (from_live_outs one rest) (places_end n) (length-before one) in
    let two : drop (places_end n + 2) bytes ≡ little_bytes 2 l ++ lives = sym (drop-drop 2 (places_end n) bytes) ∙ ap (drop 2) middle in
    let four : drop (places_end n + 4) bytes ≡ lives = sym (drop-drop 4 (places_end n) bytes) ∙ ap (drop 4) middle in
    let count : live_outs_count bytes ≡ l = ap (λ (k : ℕ). little_number 2 (drop (places_end k + 2) bytes)) at14 ∙ ap (little_number 2) two ∙ little_number-reads_back 2 l lives fit.few_live_outs in
    let live : live_outs_read l (drop (places_end n + 4) bytes) ≡ one.live_outs = ap (live_outs_read l) four ∙ live_outs-back one.live_outs last fit.live_outs in
    let size : size_read bytes ≡ length (record_bytes one) = ap (λ (k : ℕ). record_size k (live_outs_count bytes)) at14 ∙ ap (record_size n) count ∙ sym (length-record one) in
    record {
      places = at14;
      live_outs = count;
      read = ap (λ (x : ℕ). record_of x (little_number 4 (drop 8 bytes)) (places_read (places_count bytes) (drop 16 bytes)) (live_outs_read (live_outs_count bytes) (drop (places_end (places_count bytes) + 4) bytes))) at0
          ∙ ap (λ (x : ℕ). record_of one.id x (places_read (places_count bytes) (drop 16 bytes)) (live_outs_read (live_outs_count bytes) (drop (places_end (places_count bytes) + 4) bytes))) at8
          ∙ ap (λ (k : ℕ). record_of one.id one.offset (places_read k (drop 16 bytes)) (live_outs_read (live_outs_count bytes) (drop (places_end k + 4) bytes))) at14
          ∙ ap (λ (k : ℕ). record_of one.id one.offset (places_read n (drop 16 bytes)) (live_outs_read k (drop (places_end n + 4) bytes))) count
          ∙ ap (λ (x : List Place). record_of one.id one.offset x (live_outs_read l (drop (places_end n + 4) bytes))) at16
          ∙ ap (λ (x : List LiveOut). record_of one.id one.offset one.places x) live;
      size = size;
      behind = ap (λ (k : ℕ). drop k bytes) size ∙ ap (drop (length (record_bytes one))) (sym whole) ∙ drop_at (record_bytes one) rest (length (record_bytes one)) refl;
    }

pub record-back : (one : MapRecord) (rest : List ℕ) → RecordSmall one → ReadsRecord one (record_bytes one ++ rest) rest
record-back one rest fit = record-parts one (record_bytes one ++ rest) rest fit (sym (record_bytes-then one rest)) refl

pub records-back : (records : List MapRecord) (rest : List ℕ) → AllByRecursion RecordSmall records → records_read (length records) (flat_map record_bytes records ++ rest) ≡ records
unfolding records_read
records-back [] rest fit = refl
records-back (r ∷ rs) rest fit =
    let behind : List ℕ = flat_map record_bytes rs ++ rest in
    let whole : (record_bytes r ++ flat_map record_bytes rs) ++ rest ≡ record_bytes r ++ behind = append_assoc (record_bytes r) (flat_map record_bytes rs) rest in
    let one = record-back r behind fit.0 in
    ap (records_read (suc (length rs))) whole
    ∙ ap (λ (x : MapRecord). x ∷ records_read (length rs) (drop (size_read (record_bytes r ++ behind)) (record_bytes r ++ behind))) one.read
    ∙ ap (λ (x : List ℕ). r ∷ records_read (length rs) x) one.behind
    ∙ ap (λ (xs : List MapRecord). r ∷ xs) (records-back rs rest fit.1)

-- ---- maps

map_of : List FuncEntry → List ℕ → List MapRecord → StackMap
map_of functions constants records = record { functions = functions; constants = constants; records = records }

-- the places of the parts of a map
pub record ReadsMap (map : StackMap) (bytes : List ℕ) : Type 0 where
  pub functions : little_number 4 (drop 4 bytes) ≡ length map.functions
  pub constants : little_number 4 (drop 8 bytes) ≡ length map.constants
  pub records : little_number 4 (drop 12 bytes) ≡ length map.records
  pub behind_header : drop 16 bytes ≡ flat_map function_bytes map.functions ++ (flat_map (little_bytes 8) map.constants ++ flat_map record_bytes map.records)
  pub behind_functions : drop (constants_at bytes) bytes ≡ flat_map (little_bytes 8) map.constants ++ flat_map record_bytes map.records
  pub behind_constants : drop (records_at bytes) bytes ≡ flat_map record_bytes map.records
  pub read : map_read bytes ≡ map

map-parts : (map : StackMap) (bytes : List ℕ) → MapFits map → bytes ≡ map_bytes map → ReadsMap map bytes
unfolding map_read map_of header_bytes
map-parts map bytes fit is =
    let f = length map.functions in
    let c = length map.constants in
    let r = length map.records in
    let records : List ℕ = flat_map record_bytes map.records in
    let constants : List ℕ = flat_map (little_bytes 8) map.constants ++ records in
    let functions : List ℕ = flat_map function_bytes map.functions ++ constants in
    let parts : bytes ≡ header_bytes map ++ functions = is ∙ map_bytes-parts map in
    let e12 : List ℕ = little_bytes 4 r ++ functions in
    let e8 : List ℕ = little_bytes 4 c ++ e12 in
    let at4 : little_number 4 (drop 4 bytes) ≡ f = ap (λ (x : List ℕ). little_number 4 (drop 4 x)) parts ∙ little_number-reads_back 4 f e8 fit.few_functions in
    let at8 : little_number 4 (drop 8 bytes) ≡ c = ap (λ (x : List ℕ). little_number 4 (drop 8 x)) parts ∙ little_number-reads_back 4 c e12 fit.few_constants in
    let at12 : little_number 4 (drop 12 bytes) ≡ r = ap (λ (x : List ℕ). little_number 4 (drop 12 x)) parts ∙ little_number-reads_back 4 r functions fit.few_records in
    let at16 : drop 16 bytes ≡ functions = ap (drop 16) parts in
    let constants_from : drop (16 + 24 * f) bytes ≡ constants = sym (drop-drop (24 * f) 16 bytes) ∙ ap (drop (24 * f)) at16 ∙ drop_at (flat_map function_bytes map.functions) constants (24 * f) (length-functions map.functions) in
    let records_from : drop (16 + 24 * f + 8 * c) bytes ≡ records = sym (drop-drop (8 * c) (16 + 24 * f) bytes) ∙ ap (drop (8 * c)) constants_from ∙ drop_at (flat_map (little_bytes 8) map.constants) records (8 * c) (length-constants map.constants) in
    let all_constants : drop (constants_at bytes) bytes ≡ constants = ap (λ (k : ℕ). drop (16 + 24 * k) bytes) at4 ∙ constants_from in
    let all_records : drop (records_at bytes) bytes ≡ records = ap (λ (k : ℕ). drop (16 + 24 * k + 8 * little_number 4 (drop 8 bytes)) bytes) at4 ∙ ap (λ (k : ℕ). drop (16 + 24 * f + 8 * k) bytes) at8 ∙ records_from in
    let records_are : records_read (little_number 4 (drop 12 bytes)) (drop (records_at bytes) bytes) ≡ map.records
    = ap (λ (k : ℕ). records_read k (drop (records_at bytes) bytes)) at12 ∙ ap (records_read r) all_records ∙ ap (records_read r) (sym (append-nil records)) ∙ records-back map.records [] (records-small c map.records fit.records) in
    let constants_are : constants_read (little_number 4 (drop 8 bytes)) (drop (constants_at bytes) bytes) ≡ map.constants
    = ap (λ (k : ℕ). constants_read k (drop (constants_at bytes) bytes)) at8 ∙ ap (constants_read c) all_constants ∙ constants-back map.constants records fit.constants in
    let functions_are : functions_read (little_number 4 (drop 4 bytes)) (drop 16 bytes) ≡ map.functions
    = ap (λ (k : ℕ). functions_read k (drop 16 bytes)) at4 ∙ ap (functions_read f) at16 ∙ functions-back map.functions constants fit.functions in
    record {
      functions = at4;
      constants = at8;
      records = at12;
      behind_header = at16;
      behind_functions = all_constants;
      behind_constants = all_records;
      read = ap (λ (x : List FuncEntry). map_of x (constants_read (little_number 4 (drop 8 bytes)) (drop (constants_at bytes) bytes)) (records_read (little_number 4 (drop 12 bytes)) (drop (records_at bytes) bytes))) functions_are
          ∙ ap (λ (x : List ℕ). map_of map.functions x (records_read (little_number 4 (drop 12 bytes)) (drop (records_at bytes) bytes))) constants_are
          ∙ ap (λ (x : List MapRecord). map_of map.functions map.constants x) records_are;
    }

pub map-back : (map : StackMap) (bytes : List ℕ) → MapFits map → bytes ≡ map_bytes map → ReadsMap map bytes
map-back map bytes fit is = map-parts map bytes fit is
