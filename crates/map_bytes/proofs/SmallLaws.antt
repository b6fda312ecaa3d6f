-- What is read of bytes has numbers that fit, and its places: records, functions and locations by number.
use Rattle.std.proofs.Common.{◌≡◌, ℕ, zero, suc, ◌+◌, ◌-◌, ◌*◌, ◌%◌, ◌^◌, ◌<◌, ◌≤◌, Bool, true, false, cond, eqb, List, [], ◌∷◌, ◌++◌, length, take, drop, Option, Some, None, Fits, refl, sym, ap, subst, ◌∙◌, arith}
use Rattle.std.specs.Prelude.{slice_get, FitsSigned}
use Rattle.std.specs.List.{flat_map, AllByRecursion}
use Rattle.std.specs.Int.{w32, cast_signed}
use Rattle.std.proofs.lemmas.List.{append-nil, drop_at, take_at, drop-drop, length-append}
use Rattle.std.proofs.Math.Facts.{sfits_to_z}
use Rattle.byteorder.specs.Endian.{little_bytes, little_number}
use Rattle.byteorder.specs.Numbers.{little_from-lt}
use Rattle.map_bytes.specs.declared.values.FuncEntry.{FuncEntry}
use Rattle.map_bytes.specs.declared.values.Place.{Place}
use Rattle.map_bytes.specs.Formats.{AreBytes}
use Rattle.map_bytes.specs.Maps.{LiveOut, MapRecord, record_bytes}
use Rattle.map_bytes.specs.Fits.{LiveOutFits}
use Rattle.map_bytes.specs.Reads.{function_read, functions_read, place_read, places_read, live_out_read, live_outs_read, padding_size, places_end, record_size, places_count, live_outs_count, record_read, size_read, records_read}
use Rattle.map_bytes.proofs.NumberLaws.{AreBytes-drop}
use Rattle.map_bytes.proofs.ReadLaws.{PlaceSmall, RecordSmall, length-record, record-back}

below : (size i : ℕ) (bytes : List ℕ) → AreBytes bytes → little_number size (drop i bytes) < 256 ^ size
below size i bytes are = little_from-lt 0 size (drop i bytes) (AreBytes-drop i bytes are)

places-read-small : (n : ℕ) (bytes : List ℕ) → AreBytes bytes → AllByRecursion PlaceSmall (places_read n bytes)
unfolding places_read place_read
places-read-small zero bytes are = tt
places-read-small (suc n) bytes are =
    let small : little_number 4 (drop 8 bytes) < 2 ^ 32 = below 4 8 bytes are in
    let fits : Fits w32 (little_number 4 (drop 8 bytes)) = omega arith in
    (record { kind = below 1 0 bytes are; size = below 2 2 bytes are; register = below 2 4 bytes are; offset = sfits_to_z fits }, places-read-small n (drop 12 bytes) (AreBytes-drop 12 bytes are))

live_outs-read-small : (n : ℕ) (bytes : List ℕ) → AreBytes bytes → AllByRecursion LiveOutFits (live_outs_read n bytes)
unfolding live_outs_read live_out_read
live_outs-read-small zero bytes are = tt
live_outs-read-small (suc n) bytes are = (record { register = below 2 0 bytes are; size = below 1 3 bytes are }, live_outs-read-small n (drop 4 bytes) (AreBytes-drop 4 bytes are))

pub length-places_read : (n : ℕ) (bytes : List ℕ) → length (places_read n bytes) ≡ n
unfolding places_read
length-places_read zero bytes = refl
length-places_read (suc n) bytes = ap suc (length-places_read n (drop 12 bytes))

length-live_outs_read : (n : ℕ) (bytes : List ℕ) → length (live_outs_read n bytes) ≡ n
unfolding live_outs_read
length-live_outs_read zero bytes = refl
length-live_outs_read (suc n) bytes = ap suc (length-live_outs_read n (drop 4 bytes))

pub length-functions_read : (n : ℕ) (bytes : List ℕ) → length (functions_read n bytes) ≡ n
unfolding functions_read
length-functions_read zero bytes = refl
length-functions_read (suc n) bytes = ap suc (length-functions_read n (drop 24 bytes))

pub length-records_read : (n : ℕ) (bytes : List ℕ) → length (records_read n bytes) ≡ n
unfolding records_read
length-records_read zero bytes = refl
length-records_read (suc n) bytes = ap suc (length-records_read n (drop (size_read bytes) bytes))

pub record-read-small : (bytes : List ℕ) → AreBytes bytes → RecordSmall (record_read bytes)
unfolding record_read
record-read-small bytes are =
    let n = places_count bytes in
    let l = live_outs_count bytes in
    record {
      id = below 8 0 bytes are;
      offset = below 4 8 bytes are;
      few_places = subst (λ (k : ℕ). k < 2 ^ 16) (sym (length-places_read n (drop 16 bytes))) (below 2 14 bytes are);
      few_live_outs = subst (λ (k : ℕ). k < 2 ^ 16) (sym (length-live_outs_read l (drop (places_end n + 4) bytes))) (below 2 (places_end n + 2) bytes are);
      places = places-read-small n (drop 16 bytes) (AreBytes-drop 16 bytes are);
      live_outs = live_outs-read-small l (drop (places_end n + 4) bytes) (AreBytes-drop (places_end n + 4) bytes are);
    }

-- how many bytes the record that is read has
pub size-read : (bytes : List ℕ) → size_read bytes ≡ length (record_bytes (record_read bytes))
unfolding record_read
size-read bytes =
    let n = places_count bytes in
    let l = live_outs_count bytes in
    sym (length-record (record_read bytes)
    ∙ ap (λ (k : ℕ). record_size k (length (record_read bytes).live_outs)) (length-places_read n (drop 16 bytes))
    ∙ ap (λ (k : ℕ). record_size n k) (length-live_outs_read l (drop (places_end n + 4) bytes)))

-- the first of some records that the bytes are, and the others
pub record First (n : ℕ) (bytes : List ℕ) : Type 0 where
  pub fits : size_read bytes ≤ length bytes
  pub first : take (size_read bytes) bytes ≡ record_bytes (record_read bytes)
  pub again : record_read (take (size_read bytes) bytes) ≡ record_read bytes
  pub others : drop (size_read bytes) bytes ≡ flat_map record_bytes (records_read n (drop (size_read bytes) bytes))

pub first-read : (n : ℕ) (bytes : List ℕ) → AreBytes bytes → bytes ≡ flat_map record_bytes (records_read (suc n) bytes) → First n bytes
unfolding records_read
first-read n bytes are whole =
    let r = record_read bytes in
    let rest : List ℕ = flat_map record_bytes (records_read n (drop (size_read bytes) bytes)) in
    let parts : bytes ≡ record_bytes r ++ rest = whole in
    let size = size-read bytes in
    let front : take (size_read bytes) bytes ≡ record_bytes r = ap (take (size_read bytes)) parts ∙ take_at (record_bytes r) rest (size_read bytes) (sym size) in
    let back : drop (size_read bytes) bytes ≡ rest = ap (drop (size_read bytes)) parts ∙ drop_at (record_bytes r) rest (size_read bytes) (sym size) in
    let one = record-back r [] (record-read-small bytes are) in
    let len : length bytes ≡ length (record_bytes r) + length rest = ap length parts ∙ length-append (record_bytes r) rest in
    record {
      fits = omega (arith, size, len);
      first = front;
      again = ap record_read (front ∙ sym (append-nil (record_bytes r))) ∙ one.read;
      others = back;
    }

-- ---- by number

pub place-get : (n i : ℕ) (bytes : List ℕ) → i < n → slice_get (places_read n bytes) i ≡ Some (place_read (drop (12 * i) bytes))
unfolding places_read
place-get zero i bytes lt = absurd (omega arith)
place-get (suc n) zero bytes lt = refl
place-get (suc n) (suc i) bytes lt =
    let sum : 12 + 12 * i ≡ 12 * suc i = omega arith in
    place-get n i (drop 12 bytes) (omega arith) ∙ ap (λ (x : List ℕ). Some (place_read x)) (drop-drop (12 * i) 12 bytes ∙ ap (λ (k : ℕ). drop k bytes) sum)

pub function-get : (n i : ℕ) (bytes : List ℕ) → i < n → slice_get (functions_read n bytes) i ≡ Some (function_read (drop (24 * i) bytes))
unfolding functions_read
function-get zero i bytes lt = absurd (omega arith)
function-get (suc n) zero bytes lt = refl
function-get (suc n) (suc i) bytes lt =
    let sum : 24 + 24 * i ≡ 24 * suc i = omega arith in
    function-get n i (drop 24 bytes) (omega arith) ∙ ap (λ (x : List ℕ). Some (function_read x)) (drop-drop (24 * i) 24 bytes ∙ ap (λ (k : ℕ). drop k bytes) sum)
