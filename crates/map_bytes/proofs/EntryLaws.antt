-- The records of functions, one after the other.
use Rattle.std.proofs.Common.{◌≡◌, ℕ, zero, suc, ◌+◌, ◌-◌, ◌≤◌, ◌<◌, List, [], ◌∷◌, ◌++◌, length, take, drop, refl, sym, ap, ◌∙◌, arith}
use Rattle.std.specs.Prelude.{map}
use Rattle.std.proofs.lemmas.List.{length-append, length-map, length-take-le, length-drop}
use Rattle.map_bytes.specs.declared.values.FuncEntry.{FuncEntry}
use Rattle.map_bytes.specs.Maps.{MapRecord, counted_records}
use Rattle.map_bytes.specs.Entries.{Entry, entry_of, entries_of}

-- every record has its function
pub length-entries : (functions : List FuncEntry) (records : List MapRecord) → counted_records functions ≡ length records → length (entries_of functions records) ≡ length records
unfolding entries_of
length-entries [] records e = omega arith
length-entries (f ∷ fs) records e =
    let dropped : length (drop f.records records) ≡ length records - f.records = length-drop f.records records in
    let later = length-entries fs (drop f.records records) (omega arith) in
    let taken : length (take f.records records) ≡ f.records = length-take-le f.records records (omega arith) in
    length-append (map (entry_of f) (take f.records records)) (entries_of fs (drop f.records records)) ∙ omega (arith, length-map (take f.records records) (entry_of f))

-- a function that counts none has no record
pub entries-none : (function : FuncEntry) (functions : List FuncEntry) (records : List MapRecord) → function.records ≡ 0 → entries_of (function ∷ functions) records ≡ entries_of functions records
unfolding entries_of
entries-none function functions records e = ap (λ (k : ℕ). map (entry_of function) (take k records) ++ entries_of functions (drop k records)) e

-- the first record is of the first function that counts one
pub entries-first : (address frame_bytes left : ℕ) (functions : List FuncEntry) (one : MapRecord) (records : List MapRecord)
    → entries_of (record { address = address; frame_bytes = frame_bytes; records = suc left } ∷ functions) (one ∷ records)
    ≡ entry_of (record { address = address; frame_bytes = frame_bytes; records = suc left }) one ∷ entries_of (record { address = address; frame_bytes = frame_bytes; records = left } ∷ functions) records
unfolding entries_of
entries-first address frame_bytes left functions one records = refl
