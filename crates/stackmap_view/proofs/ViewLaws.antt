-- What a view keeps of its bytes.
use Rattle.std.proofs.Common.{◌≡◌, ℕ, zero, suc, ◌+◌, ◌*◌, ◌<◌, ◌≤◌, IsTrue, List, ◌++◌, length, drop, Some, None, Result, Ok, Err, refl, sym, ap, ◌∙◌, arith}
use Rattle.std.specs.Prelude.{is_none, slice_get}
use Rattle.std.specs.List.{flat_map}
use Rattle.std.proofs.lemmas.List.{drop-drop, length-append}
use Rattle.byteorder.specs.Endian.{little_bytes, little_number}
use Rattle.map_bytes.specs.declared.rules.MapFault.{MapFault}
use Rattle.map_bytes.specs.Formats.{AreBytes}
use Rattle.map_bytes.specs.Tables.{map_format}
use Rattle.map_bytes.specs.Maps.{StackMap, counted_records, function_bytes, header_bytes, record_bytes, IsMapOf}
use Rattle.map_bytes.specs.Faults.{first_fault, IsFirstFault}
use Rattle.map_bytes.specs.Reads.{functions_read, constants_read, records_read, constants_at, records_at, map_read}
use Rattle.map_bytes.proofs.PartLaws.{map_bytes-parts}
use Rattle.map_bytes.proofs.FitsLaws.{map-fits}
use Rattle.map_bytes.proofs.ReadLaws.{map-back, length-functions, length-constants}
use Rattle.map_bytes.proofs.SmallLaws.{length-functions_read, length-records_read}
use Rattle.map_bytes.proofs.MapLaws.{one_map, faultless_map, found_fault, map_faultless}
use Rattle.stackmap_view.specs.Steps.{map_at}
use Rattle.stackmap_view.proofs.StepLaws.{then_found, none_behind, map-linked}

-- ---- what was found

pub looked_ok : (bytes rest : List ℕ) → AreBytes bytes → map_at bytes ≡ Ok rest → first_fault map_format (length bytes) bytes ≡ None
looked_ok bytes rest are e = map-linked bytes are ∙ ap (λ (r : Result (List ℕ) MapFault). then_found r none_behind) e

pub looked_err : (bytes : List ℕ) (fault : MapFault) → AreBytes bytes → map_at bytes ≡ Err fault → IsFirstFault bytes fault
looked_err bytes fault are e = found_fault bytes fault are (map-linked bytes are ∙ ap (λ (r : Result (List ℕ) MapFault). then_found r none_behind) e)

-- ---- what a map keeps

pub record Keeps (bytes : List ℕ) : Type 0 where
  pub is : IsMapOf bytes (map_read bytes)
  pub faultless : IsTrue (is_none (first_fault map_format (length bytes) bytes))
  pub room : records_at bytes ≤ length bytes
  pub counted : counted_records (map_read bytes).functions ≡ length (map_read bytes).records
  pub spelled : drop (records_at bytes) bytes ≡ flat_map record_bytes (map_read bytes).records

header-length : (map : StackMap) → length (header_bytes map) ≡ 16
unfolding header_bytes
header-length map = refl

pub keeps : (bytes rest : List ℕ) → AreBytes bytes → map_at bytes ≡ Ok rest → Keeps bytes
keeps bytes rest are e =
    let none = looked_ok bytes rest are e in
    let map = map_read bytes in
    let is = faultless_map bytes are none in
    let fits = map-fits map is.allowed in
    let reads = map-back map bytes fits is.spelled in
    let f = length map.functions in
    let c = length map.constants in
    let records : List ℕ = flat_map record_bytes map.records in
    let constants : List ℕ = flat_map (little_bytes 8) map.constants ++ records in
    let whole : bytes ≡ header_bytes map ++ (flat_map function_bytes map.functions ++ constants) = is.spelled ∙ map_bytes-parts map in
    let len : length bytes ≡ 16 + (24 * f + (8 * c + length records))
    = ap length whole ∙ omega (
      arith,
      length-append (header_bytes map) (flat_map function_bytes map.functions ++ constants),
      header-length map,
      length-append (flat_map function_bytes map.functions) constants,
      length-append (flat_map (little_bytes 8) map.constants) records,
      length-functions map.functions,
      length-constants map.constants,
    ) in
    record {
      is = is;
      faultless = ap is_none none;
      room = omega (arith, len, reads.functions, reads.constants);
      counted = fits.counted;
      spelled = reads.behind_constants;
    }

ok_or : (r : Result (List ℕ) MapFault) (fault : MapFault) → then_found r none_behind ≡ None → r ≡ Err fault → ⊥
ok_or r fault e also = let both : then_found r none_behind ≡ Some fault = ap (λ (x : Result (List ℕ) MapFault). then_found x none_behind) also in cc

-- bytes that are a map aren't refused
pub map_looked : (bytes : List ℕ) (map : StackMap) (fault : MapFault) → AreBytes bytes → IsMapOf bytes map → map_at bytes ≡ Err fault → ⊥
map_looked bytes map fault are is e = ok_or (map_at bytes) fault (sym (map-linked bytes are) ∙ map_faultless bytes map (length bytes) is) e

pub only_map : (bytes : List ℕ) (map other : StackMap) → IsMapOf bytes map → IsMapOf bytes other → other ≡ map
only_map bytes map other is also = one_map bytes other map also is

-- ---- what is read

pub functions_are : (bytes : List ℕ) → length (map_read bytes).functions ≡ little_number 4 (drop 4 bytes)
unfolding map_read
functions_are bytes = length-functions_read (little_number 4 (drop 4 bytes)) (drop 16 bytes)

pub records_are : (bytes : List ℕ) → length (map_read bytes).records ≡ little_number 4 (drop 12 bytes)
unfolding map_read
records_are bytes = length-records_read (little_number 4 (drop 12 bytes)) (drop (records_at bytes) bytes)

length-constants_read : (n : ℕ) (bytes : List ℕ) → length (constants_read n bytes) ≡ n
unfolding constants_read
length-constants_read zero bytes = refl
length-constants_read (suc n) bytes = ap suc (length-constants_read n (drop 8 bytes))

pub constants_are : (bytes : List ℕ) → length (map_read bytes).constants ≡ little_number 4 (drop 8 bytes)
unfolding map_read
constants_are bytes = length-constants_read (little_number 4 (drop 8 bytes)) (drop (constants_at bytes) bytes)

pub constant-get : (n i : ℕ) (bytes : List ℕ) → i < n → slice_get (constants_read n bytes) i ≡ Some (little_number 8 (drop (8 * i) bytes))
unfolding constants_read
constant-get zero i bytes lt = absurd (omega arith)
constant-get (suc n) zero bytes lt = refl
constant-get (suc n) (suc i) bytes lt =
    let sum : 8 + 8 * i ≡ 8 * suc i = omega arith in
    constant-get n i (drop 8 bytes) (omega arith) ∙ ap (λ (x : List ℕ). Some (little_number 8 x)) (drop-drop (8 * i) 8 bytes ∙ ap (λ (k : ℕ). drop k bytes) sum)

pub functions-of : (bytes : List ℕ) (n : ℕ) (functions : List ℕ) → n ≡ length (map_read bytes).functions → functions ≡ drop 16 bytes → functions_read n functions ≡ (map_read bytes).functions
unfolding map_read
functions-of bytes n functions e is =
    ap (λ (k : ℕ). functions_read k functions) (e ∙ length-functions_read (little_number 4 (drop 4 bytes)) (drop 16 bytes)) ∙ ap (functions_read (little_number 4 (drop 4 bytes))) is

pub records-of : (bytes : List ℕ) (n : ℕ) (records : List ℕ) → n ≡ little_number 4 (drop 12 bytes) → records ≡ drop (records_at bytes) bytes → records_read n records ≡ (map_read bytes).records
unfolding map_read
records-of bytes n records e is = ap (λ (k : ℕ). records_read k records) e ∙ ap (records_read (little_number 4 (drop 12 bytes))) is

-- where the records begin
pub records-from : (bytes rest : List ℕ) (f c : ℕ) → f ≡ length (map_read bytes).functions → c ≡ little_number 4 (drop 8 bytes) → rest ≡ drop (16 + 24 * f + 8 * c) bytes → rest ≡ drop (records_at bytes) bytes
records-from bytes rest f c e also is =
    is ∙ ap (λ (k : ℕ). drop (16 + 24 * k + 8 * c) bytes) (e ∙ functions_are bytes) ∙ ap (λ (k : ℕ). drop (constants_at bytes + 8 * k) bytes) also
