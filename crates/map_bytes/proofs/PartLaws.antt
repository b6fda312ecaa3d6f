-- The bytes of a map, part by part.
use Rattle.std.proofs.Common.{◌≡◌, ℕ, ◌+◌, ◌*◌, ◌%◌, Bool, true, false, cond, eqb, List, [], ◌∷◌, ◌++◌, length, refl, sym, ap, ◌∙◌, append_assoc, arith}
use Rattle.std.proofs.lemmas.List.{append-nil}
use Rattle.std.specs.List.{flat_map}
use Rattle.byteorder.specs.Endian.{little_bytes}
use Rattle.map_bytes.specs.declared.values.FuncEntry.{FuncEntry}
use Rattle.map_bytes.specs.declared.values.Place.{Place}
use Rattle.map_bytes.specs.Formats.{Format, ends, field, laid}
use Rattle.map_bytes.specs.Tables.{any, reserved, padded, functions_then, constants_then, places_then, live_outs_then, record_then, records_then, behind_functions, map_format}
use Rattle.map_bytes.specs.Maps.{LiveOut, MapRecord, StackMap, function_numbers, place_numbers, live_out_numbers, padding_numbers, record_numbers, map_numbers, record_bytes, map_bytes, function_bytes, place_bytes, live_out_bytes, padding_bytes, record_bytes_then, header_bytes, counted_records}

pub laid-functions : (functions : List FuncEntry) (counted : ℕ) (next : ℕ → Format) (ns : List ℕ)
    → laid (functions_then (length functions) counted next) (flat_map function_numbers functions ++ ns) ≡ flat_map function_bytes functions ++ laid (next (counted + counted_records functions)) ns
unfolding laid functions_then function_bytes
laid-functions [] counted next ns = ap (λ (k : ℕ). laid (next k) ns) (let e : counted ≡ counted + 0 = omega arith in e)
laid-functions (f ∷ fs) counted next ns =
    let sum : counted + f.records + counted_records fs ≡ counted + (f.records + counted_records fs) = omega arith in
    ap (λ (bytes : List ℕ). function_bytes f ++ bytes) (laid-functions fs (counted + f.records) next ns)
    ∙ ap (λ (k : ℕ). function_bytes f ++ (flat_map function_bytes fs ++ laid (next k) ns)) sum

pub laid-constants : (constants : List ℕ) (next : Format) (ns : List ℕ) → laid (constants_then (length constants) next) (constants ++ ns) ≡ flat_map (little_bytes 8) constants ++ laid next ns
unfolding laid constants_then
laid-constants [] next ns = refl
laid-constants (c ∷ cs) next ns = ap (λ (bytes : List ℕ). little_bytes 8 c ++ bytes) (laid-constants cs next ns)

pub laid-places : (constants : ℕ) (places : List Place) (next : Format) (ns : List ℕ)
    → laid (places_then constants (length places) next) (flat_map place_numbers places ++ ns) ≡ flat_map place_bytes places ++ laid next ns
unfolding laid places_then place_bytes
laid-places constants [] next ns = refl
laid-places constants (p ∷ ps) next ns = ap (λ (bytes : List ℕ). place_bytes p ++ bytes) (laid-places constants ps next ns)

pub laid-live_outs : (live : List LiveOut) (next : Format) (ns : List ℕ) → laid (live_outs_then (length live) next) (flat_map live_out_numbers live ++ ns) ≡ flat_map live_out_bytes live ++ laid next ns
unfolding laid live_outs_then live_out_bytes
laid-live_outs [] next ns = refl
laid-live_outs (l ∷ ls) next ns = ap (λ (bytes : List ℕ). live_out_bytes l ++ bytes) (laid-live_outs ls next ns)

laid-padding : (aligned : Bool) (next : Format) (ns : List ℕ) → laid (cond aligned next (field (reserved 4) (λ _. next))) (cond aligned [] (0 ∷ []) ++ ns) ≡ cond aligned [] (little_bytes 4 0) ++ laid next ns
unfolding laid
laid-padding true next ns = refl
laid-padding false next ns = refl

pub laid-padded : (bytes : ℕ) (next : Format) (ns : List ℕ) → laid (padded bytes next) (padding_numbers bytes ++ ns) ≡ padding_bytes bytes ++ laid next ns
unfolding padded
laid-padded bytes next ns = laid-padding (eqb (bytes % 8) 0) next ns

-- the numbers of a record in front of others
record_numbers-then : (one : MapRecord) (ns : List ℕ)
    → record_numbers one ++ ns ≡ one.id ∷ one.offset ∷ 0 ∷ length one.places ∷ (flat_map place_numbers one.places ++ (padding_numbers (16 + 12 * length one.places)
    ++ (0 ∷ length one.live_outs ∷ (flat_map live_out_numbers one.live_outs ++ (padding_numbers (4 + 4 * length one.live_outs) ++ ns)))))
unfolding record_numbers
record_numbers-then one ns =
    let lives : List ℕ = flat_map live_out_numbers one.live_outs in
    let last : List ℕ = padding_numbers (4 + 4 * length one.live_outs) in
    let places : List ℕ = flat_map place_numbers one.places in
    let first : List ℕ = padding_numbers (16 + 12 * length one.places) in
    let inner : List ℕ = 0 ∷ length one.live_outs ∷ (lives ++ last) in
    ap (λ (x : List ℕ). one.id ∷ one.offset ∷ 0 ∷ length one.places ∷ x)
    (append_assoc places (first ++ inner) ns
    ∙ ap (λ (x : List ℕ). places ++ x) (append_assoc first inner ns ∙ ap (λ (x : List ℕ). first ++ (0 ∷ length one.live_outs ∷ x)) (append_assoc lives last ns)))

pub laid-record : (constants : ℕ) (one : MapRecord) (next : Format) (ns : List ℕ) → laid (record_then constants next) (record_numbers one ++ ns) ≡ record_bytes_then one (laid next ns)
unfolding laid record_then record_bytes_then
laid-record constants one next ns =
    let k = length one.live_outs in
    let n = length one.places in
    let last : List ℕ = padding_numbers (4 + 4 * k) ++ ns in
    let lives : Format = live_outs_then k (padded (4 + 4 * k) next) in
    let live : laid lives (flat_map live_out_numbers one.live_outs ++ last) ≡ flat_map live_out_bytes one.live_outs ++ (padding_bytes (4 + 4 * k) ++ laid next ns)
    = laid-live_outs one.live_outs (padded (4 + 4 * k) next) last ∙ ap (λ (x : List ℕ). flat_map live_out_bytes one.live_outs ++ x) (laid-padded (4 + 4 * k) next ns) in
    let middle : Format = field (reserved 2) (λ _. field (any 2) (λ l. live_outs_then l (padded (4 + 4 * l) next))) in
    let counts : List ℕ = 0 ∷ k ∷ (flat_map live_out_numbers one.live_outs ++ last) in
    let places : laid (places_then constants n (padded (16 + 12 * n) middle)) (flat_map place_numbers one.places ++ (padding_numbers (16 + 12 * n) ++ counts))
    ≡ flat_map place_bytes one.places ++ (padding_bytes (16 + 12 * n) ++ laid middle counts)
    = laid-places constants one.places (padded (16 + 12 * n) middle) (padding_numbers (16 + 12 * n) ++ counts)
    ∙ ap (λ (x : List ℕ). flat_map place_bytes one.places ++ x) (laid-padded (16 + 12 * n) middle counts) in
    let front : List ℕ → List ℕ = λ (x : List ℕ). little_bytes 8 one.id ++ (little_bytes 4 one.offset ++ (little_bytes 2 0 ++ (little_bytes 2 n ++ x))) in
    ap (laid (record_then constants next)) (record_numbers-then one ns)
    ∙ ap front places
    ∙ ap (λ (x : List ℕ). front (flat_map place_bytes one.places ++ (padding_bytes (16 + 12 * n) ++ (little_bytes 2 0 ++ (little_bytes 2 k ++ x))))) live

regroup : (a b c d e f g h i j rest : List ℕ)
    → a ++ (b ++ (c ++ (d ++ (e ++ (f ++ (g ++ (h ++ (i ++ (j ++ rest))))))))) ≡ (a ++ (b ++ (c ++ (d ++ (e ++ (f ++ (g ++ (h ++ (i ++ (j ++ [])))))))))) ++ rest
regroup a b c d e f g h i j rest = simp append_assoc

-- a record is the same whatever stands behind it
record_bytes_then-append : (one : MapRecord) (rest : List ℕ) → record_bytes_then one rest ≡ record_bytes_then one [] ++ rest
unfolding record_bytes_then
record_bytes_then-append one rest =
    regroup (little_bytes 8 one.id) (little_bytes 4 one.offset) (little_bytes 2 0) (little_bytes 2 (length one.places)) (flat_map place_bytes one.places) (padding_bytes (16 + 12 * length one.places))
    (little_bytes 2 0) (little_bytes 2 (length one.live_outs)) (flat_map live_out_bytes one.live_outs) (padding_bytes (4 + 4 * length one.live_outs)) rest

pub record_bytes-parts : (one : MapRecord) → record_bytes one ≡ record_bytes_then one []
unfolding record_bytes laid
record_bytes-parts one = ap (laid (record_then 0 ends)) (sym (append-nil (record_numbers one))) ∙ laid-record 0 one ends []

pub record_bytes-then : (one : MapRecord) (rest : List ℕ) → record_bytes_then one rest ≡ record_bytes one ++ rest
record_bytes-then one rest = record_bytes_then-append one rest ∙ ap (λ (x : List ℕ). x ++ rest) (sym (record_bytes-parts one))

pub laid-records : (constants : ℕ) (records : List MapRecord) (next : Format) (ns : List ℕ)
    → laid (records_then constants (length records) next) (flat_map record_numbers records ++ ns) ≡ flat_map record_bytes records ++ laid next ns
unfolding records_then
laid-records constants [] next ns = refl
laid-records constants (r ∷ rs) next ns =
    let later : Format = records_then constants (length rs) next in
    ap (laid (record_then constants later)) (append_assoc (record_numbers r) (flat_map record_numbers rs) ns)
    ∙ laid-record constants r later (flat_map record_numbers rs ++ ns) ∙ record_bytes-then r (laid later (flat_map record_numbers rs ++ ns))
    ∙ ap (λ (x : List ℕ). record_bytes r ++ x) (laid-records constants rs next ns)
    ∙ sym (append_assoc (record_bytes r) (flat_map record_bytes rs) (laid next ns))

-- the bytes of a map are its header, the entries of its functions, its constants and its records
pub map_bytes-parts : (map : StackMap) → map_bytes map ≡ header_bytes map ++ (flat_map function_bytes map.functions ++ (flat_map (little_bytes 8) map.constants ++ flat_map record_bytes map.records))
unfolding map_bytes map_numbers map_format laid header_bytes behind_functions
map_bytes-parts map =
    let constants = length map.constants in
    let records = length map.records in
    let numbers : List ℕ = flat_map record_numbers map.records in
    let record_part : laid (records_then constants records ends) numbers ≡ flat_map record_bytes map.records
    = ap (laid (records_then constants records ends)) (sym (append-nil numbers)) ∙ laid-records constants map.records ends [] ∙ append-nil (flat_map record_bytes map.records) in
    ap (λ (x : List ℕ). header_bytes map ++ x)
    (laid-functions map.functions 0 (behind_functions constants records) (map.constants ++ numbers)
    ∙ ap (λ (x : List ℕ). flat_map function_bytes map.functions ++ x)
    (laid-constants map.constants (records_then constants records ends) numbers ∙ ap (λ (x : List ℕ). flat_map (little_bytes 8) map.constants ++ x) record_part))
