-- The numbers of a map fill the table of fields exactly where each of them fits.
use Rattle.std.proofs.Common.{◌≡◌, ℕ, ◌+◌, ◌*◌, ◌%◌, ◌^◌, ◌<◌, ◌≤◌, Bool, true, false, cond, eqb, leb, ◌&&◌, List, [], ◌∷◌, ◌++◌, length, Some, None, refl, sym, ap, subst, ◌∙◌, append_assoc, arith, lit<}
use Rattle.std.specs.Prelude.{FitsSigned, ℤ, pos, negsuc}
use Rattle.std.proofs.lemmas.Bool.{eqb-true, eq-eqb, leb-true, leb-false, le-leb, lt-leb, and_parts, and_from}
use Rattle.std.proofs.lemmas.List.{append-nil}
use Rattle.std.specs.List.{flat_map, AllByRecursion}
use Rattle.std.specs.Int.{w32, cast_unsigned}
use Rattle.map_bytes.specs.declared.rules.MapRule.{MapRule}
use Rattle.map_bytes.specs.declared.rules.MapRule.TheVariants.{BadReserved, BadVersion, BadCount, BadKind}
use Rattle.map_bytes.specs.declared.values.FuncEntry.{FuncEntry}
use Rattle.map_bytes.specs.declared.values.Place.{Place}
use Rattle.map_bytes.specs.Formats.{Format, ends, field, IsAllowed, Fills}
use Rattle.map_bytes.specs.Tables.{any, fixed, reserved, a_kind, an_offset, padded, functions_then, constants_then, places_then, live_outs_then, record_then, records_then, behind_functions, map_format}
use Rattle.map_bytes.specs.Maps.{LiveOut, MapRecord, StackMap, function_numbers, place_numbers, live_out_numbers, padding_numbers, record_numbers, map_numbers, counted_records, IsMap}
use Rattle.map_bytes.specs.Fits.{FunctionFits, PlaceFits, LiveOutFits, RecordFits, MapFits}
use Rattle.map_bytes.proofs.FilledLaws.{AreSigned, fixed-holds}

-- ---- one field

allowed-any : (size n : ℕ) → n < 256 ^ size → IsAllowed (any size) n
allowed-any size n fits = record { fits = fits; breaks_none = refl }

kind-fits : (kind : ℕ) → IsAllowed a_kind kind → (1 ≤ kind) × (kind ≤ 5)
kind-fits kind allowed =
    let both = and_parts (leb 1 kind) (leb kind 5) (fixed-holds (leb 1 kind && leb kind 5) BadKind None allowed.breaks_none) in
    (leb-true 1 kind both.0, leb-true kind 5 both.1)

cond-first : (b : Bool) (rule : MapRule) → b ≡ true → cond b None (Some rule) ≡ None
cond-first true rule e = refl
cond-first false rule e = absurd cc

cond-second : (b : Bool) (rule : MapRule) → b ≡ false → cond b (Some rule) None ≡ None
cond-second true rule e = absurd cc
cond-second false rule e = refl

second-holds : (b : Bool) (rule : MapRule) → cond b (Some rule) None ≡ None → b ≡ false
second-holds true rule e = absurd cc
second-holds false rule e = refl

kind-allowed : (kind : ℕ) → 1 ≤ kind → kind ≤ 5 → IsAllowed a_kind kind
kind-allowed kind low high = record {
  fits = omega arith;
  breaks_none = cond-first (leb 1 kind && leb kind 5) BadKind (and_from (leb 1 kind) (leb kind 5) (le-leb 1 kind low) (le-leb kind 5 high));
}

index-fits : (constants kind n : ℕ) → IsAllowed (an_offset constants kind) n → kind ≡ 5 → n < constants
index-fits constants kind n allowed is =
    let neither = second-holds (eqb kind 5 && leb constants n) BadCount allowed.breaks_none in
    let one : eqb kind 5 ≡ true = eq-eqb kind 5 is in
    let other : leb constants n ≡ false = sym (ap (λ (b : Bool). b && leb constants n) one) ∙ neither in
    leb-false constants n other

offset-allowed : (constants kind n : ℕ) → n < 2 ^ 32 → (kind ≡ 5 → n < constants) → IsAllowed (an_offset constants kind) n
offset-allowed constants kind n fits index = record { fits = fits; breaks_none = cond-second (eqb kind 5 && leb constants n) BadCount (neither (eqb kind 5) refl) } where
  neither : (b : Bool) → eqb kind 5 ≡ b → (b && leb constants n) ≡ false
  neither true e = lt-leb constants n (index (eqb-true kind 5 e))
  neither false e = refl

fixed-allowed : (size number : ℕ) (rule : MapRule) → number < 256 ^ size → IsAllowed (fixed size number rule) number
fixed-allowed size number rule fits = record { fits = fits; breaks_none = cond-first (eqb number number) rule (eq-eqb number number refl) }

zero-allowed-1 : IsAllowed (reserved 1) 0
zero-allowed-1 = fixed-allowed 1 0 BadReserved (lit< tt)

zero-allowed-2 : IsAllowed (reserved 2) 0
zero-allowed-2 = fixed-allowed 2 0 BadReserved (lit< tt)

zero-allowed-4 : IsAllowed (reserved 4) 0
zero-allowed-4 = fixed-allowed 4 0 BadReserved (lit< tt)

pub unsigned-fits : (offset : ℤ) → FitsSigned w32 offset → cast_unsigned w32 offset < 2 ^ 32
unsigned-fits (pos n) fits = let small : n < 2 ^ 31 = fits.sfits in omega arith
unsigned-fits (negsuc n) fits = omega arith

-- ---- parts: from the table to the numbers

functions-fit : (functions : List FuncEntry) (counted : ℕ) (next : ℕ → Format) (ns : List ℕ) → Fills (functions_then (length functions) counted next) (flat_map function_numbers functions ++ ns)
    → AllByRecursion FunctionFits functions × Fills (next (counted + counted_records functions)) ns
unfolding functions_then
functions-fit [] counted next ns fills = (tt, subst (λ (k : ℕ). Fills (next k) ns) (let e : counted ≡ counted + 0 = omega arith in e) fills)
functions-fit (f ∷ fs) counted next ns fills =
    let later = functions-fit fs (counted + f.records) next ns fills.1.1.1 in
    let sum : counted + f.records + counted_records fs ≡ counted + (f.records + counted_records fs) = omega arith in
    let one : FunctionFits f = record { address = fills.0.fits; frame_bytes = fills.1.0.fits; records = fills.1.1.0.fits } in
    ((one, later.0), subst (λ (k : ℕ). Fills (next k) ns) sum later.1)

constants-fit : (constants : List ℕ) (next : Format) (ns : List ℕ) → Fills (constants_then (length constants) next) (constants ++ ns) → AllByRecursion (λ c. c < 2 ^ 64) constants × Fills next ns
unfolding constants_then
constants-fit [] next ns fills = (tt, fills)
constants-fit (c ∷ cs) next ns fills =
    let later = constants-fit cs next ns fills.1 in
    ((fills.0.fits, later.0), later.1)

places-fit : (constants : ℕ) (places : List Place) (next : Format) (ns : List ℕ) → Fills (places_then constants (length places) next) (flat_map place_numbers places ++ ns) → AreSigned places
    → AllByRecursion (PlaceFits constants) places × Fills next ns
unfolding places_then
places-fit constants [] next ns fills signed = (tt, fills)
places-fit constants (p ∷ ps) next ns fills signed =
    let later = places-fit constants ps next ns fills.1.1.1.1.1.1 signed.1 in
    let kind = kind-fits p.kind fills.0 in
    let one : PlaceFits constants p = record {
      kind_low = kind.0;
      kind_high = kind.1;
      size = fills.1.1.0.fits;
      register = fills.1.1.1.0.fits;
      offset = signed.0;
      index = index-fits constants p.kind (cast_unsigned w32 p.offset) fills.1.1.1.1.1.0;
    } in
    ((one, later.0), later.1)

live_outs-fit : (live : List LiveOut) (next : Format) (ns : List ℕ) → Fills (live_outs_then (length live) next) (flat_map live_out_numbers live ++ ns) → AllByRecursion LiveOutFits live × Fills next ns
unfolding live_outs_then
live_outs-fit [] next ns fills = (tt, fills)
live_outs-fit (l ∷ ls) next ns fills =
    let later = live_outs-fit ls next ns fills.1.1.1 in
    let one : LiveOutFits l = record { register = fills.0.fits; size = fills.1.1.0.fits } in
    ((one, later.0), later.1)

padding-fits : (aligned : Bool) (next : Format) (ns : List ℕ) → Fills (cond aligned next (field (reserved 4) (λ _. next))) (cond aligned [] (0 ∷ []) ++ ns) → Fills next ns
padding-fits true next ns fills = fills
padding-fits false next ns fills = fills.1

padded-fit : (bytes : ℕ) (next : Format) (ns : List ℕ) → Fills (padded bytes next) (padding_numbers bytes ++ ns) → Fills next ns
unfolding padded
padded-fit bytes next ns fills = padding-fits (eqb (bytes % 8) 0) next ns fills

abbrev middle : Format → Format
middle next = field (reserved 2) (λ _. field (any 2) (λ l. live_outs_then l (padded (4 + 4 * l) next)))

regroup : (a b c d rest : List ℕ) → (l : ℕ) → (a ++ (b ++ (0 ∷ l ∷ (c ++ d)))) ++ rest ≡ a ++ (b ++ (0 ∷ l ∷ (c ++ (d ++ rest))))
regroup a b c d rest l = simp append_assoc

record-fit : (constants : ℕ) (one : MapRecord) (next : Format) (ns : List ℕ) → Fills (record_then constants next) (record_numbers one ++ ns) → AreSigned one.places
    → RecordFits constants one × Fills next ns
unfolding record_then record_numbers
record-fit constants one next ns fills signed =
    let n = length one.places in
    let l = length one.live_outs in
    let lives : List ℕ = flat_map live_out_numbers one.live_outs in
    let places : List ℕ = flat_map place_numbers one.places in
    let first : List ℕ = padding_numbers (16 + 12 * n) in
    let last : List ℕ = padding_numbers (4 + 4 * l) in
    let behind : Fills (places_then constants n (padded (16 + 12 * n) (middle next))) (places ++ (first ++ (0 ∷ l ∷ (lives ++ (last ++ ns)))))
    = subst (Fills (places_then constants n (padded (16 + 12 * n) (middle next)))) (regroup places first lives last ns l) fills.1.1.1.1 in
    let a = places-fit constants one.places (padded (16 + 12 * n) (middle next)) (first ++ (0 ∷ l ∷ (lives ++ (last ++ ns)))) behind signed in
    let b : Fills (middle next) (0 ∷ l ∷ (lives ++ (last ++ ns))) = padded-fit (16 + 12 * n) (middle next) (0 ∷ l ∷ (lives ++ (last ++ ns))) a.1 in
    let c = live_outs-fit one.live_outs (padded (4 + 4 * l) next) (last ++ ns) b.1.1 in (
      record { id = fills.0.fits; offset = fills.1.0.fits; few_places = fills.1.1.1.0.fits; few_live_outs = b.1.0.fits; places = a.0; live_outs = c.0 },
      padded-fit (4 + 4 * l) next ns c.1,
    )

records-fit : (constants : ℕ) (records : List MapRecord) (next : Format) (ns : List ℕ) → Fills (records_then constants (length records) next) (flat_map record_numbers records ++ ns)
    → AllByRecursion (λ one. AreSigned one.places) records → AllByRecursion (RecordFits constants) records
unfolding records_then
records-fit constants [] next ns fills signed = tt
records-fit constants (r ∷ rs) next ns fills signed =
    let later : Format = records_then constants (length rs) next in
    let first = record-fit constants r later (flat_map record_numbers rs ++ ns) (subst (Fills (record_then constants later)) (append_assoc (record_numbers r) (flat_map record_numbers rs) ns) fills) signed.0 in
    (first.0, records-fit constants rs next ns first.1 signed.1)

behind-fits : (constants records counted : ℕ) (ns : List ℕ) → Fills (behind_functions constants records counted) ns → (counted ≡ records) × Fills (constants_then constants (records_then constants records ends)) ns
unfolding behind_functions
behind-fits constants records counted ns fills = (eqb-true counted records fills.0, fills.1)

-- the numbers of a map fit
pub map-fits : (map : StackMap) → IsMap map → MapFits map
unfolding map_format map_numbers
map-fits map is =
    let c = length map.constants in
    let r = length map.records in
    let numbers : List ℕ = flat_map record_numbers map.records in
    let fills = is.fills in
    let functions = functions-fit map.functions 0 (behind_functions c r) (map.constants ++ numbers) fills.1.1.1.1.1.1 in
    let counted = behind-fits c r (0 + counted_records map.functions) (map.constants ++ numbers) functions.1 in
    let constants = constants-fit map.constants (records_then c r ends) numbers counted.1 in
    record {
      few_functions = fills.1.1.1.0.fits;
      few_constants = fills.1.1.1.1.0.fits;
      few_records = fills.1.1.1.1.1.0.fits;
      functions = functions.0;
      counted = omega (arith, counted.0);
      constants = constants.0;
      records = records-fit c map.records ends [] (subst (Fills (records_then c r ends)) (sym (append-nil numbers)) constants.1) is.signed;
    }

-- ---- parts: from the numbers to the table

functions-fill : (functions : List FuncEntry) (counted : ℕ) (next : ℕ → Format) (ns : List ℕ) → AllByRecursion FunctionFits functions → Fills (next (counted + counted_records functions)) ns
    → Fills (functions_then (length functions) counted next) (flat_map function_numbers functions ++ ns)
unfolding functions_then
functions-fill [] counted next ns fit fills = subst (λ (k : ℕ). Fills (next k) ns) (let e : counted + 0 ≡ counted = omega arith in e) fills
functions-fill (f ∷ fs) counted next ns fit fills =
    let sum : counted + (f.records + counted_records fs) ≡ counted + f.records + counted_records fs = omega arith in
    let later = functions-fill fs (counted + f.records) next ns fit.1 (subst (λ (k : ℕ). Fills (next k) ns) sum fills) in
    (allowed-any 8 f.address fit.0.address, (allowed-any 8 f.frame_bytes fit.0.frame_bytes, (allowed-any 8 f.records fit.0.records, later)))

constants-fill : (constants : List ℕ) (next : Format) (ns : List ℕ) → AllByRecursion (λ c. c < 2 ^ 64) constants → Fills next ns → Fills (constants_then (length constants) next) (constants ++ ns)
unfolding constants_then
constants-fill [] next ns fit fills = fills
constants-fill (c ∷ cs) next ns fit fills = (allowed-any 8 c fit.0, constants-fill cs next ns fit.1 fills)

places-fill : (constants : ℕ) (places : List Place) (next : Format) (ns : List ℕ) → AllByRecursion (PlaceFits constants) places → Fills next ns
    → Fills (places_then constants (length places) next) (flat_map place_numbers places ++ ns)
unfolding places_then
places-fill constants [] next ns fit fills = fills
places-fill constants (p ∷ ps) next ns fit fills =
    let later = places-fill constants ps next ns fit.1 fills in
    let one = fit.0 in (
      kind-allowed p.kind one.kind_low one.kind_high,
      (zero-allowed-1, (allowed-any 2 p.size one.size, (allowed-any 2 p.register one.register, (zero-allowed-2, (offset-allowed constants p.kind (cast_unsigned w32 p.offset) (unsigned-fits p.offset one.offset) one.index, later))))),
    )

live_outs-fill : (live : List LiveOut) (next : Format) (ns : List ℕ) → AllByRecursion LiveOutFits live → Fills next ns → Fills (live_outs_then (length live) next) (flat_map live_out_numbers live ++ ns)
unfolding live_outs_then
live_outs-fill [] next ns fit fills = fills
live_outs-fill (l ∷ ls) next ns fit fills = (allowed-any 2 l.register fit.0.register, (zero-allowed-1, (allowed-any 1 l.size fit.0.size, live_outs-fill ls next ns fit.1 fills)))

padding-fills : (aligned : Bool) (next : Format) (ns : List ℕ) → Fills next ns → Fills (cond aligned next (field (reserved 4) (λ _. next))) (cond aligned [] (0 ∷ []) ++ ns)
padding-fills true next ns fills = fills
padding-fills false next ns fills = (zero-allowed-4, fills)

padded-fill : (bytes : ℕ) (next : Format) (ns : List ℕ) → Fills next ns → Fills (padded bytes next) (padding_numbers bytes ++ ns)
unfolding padded
padded-fill bytes next ns fills = padding-fills (eqb (bytes % 8) 0) next ns fills

record-fill : (constants : ℕ) (one : MapRecord) (next : Format) (ns : List ℕ) → RecordFits constants one → Fills next ns → Fills (record_then constants next) (record_numbers one ++ ns)
unfolding record_then record_numbers
record-fill constants one next ns fit fills =
    let n = length one.places in
    let l = length one.live_outs in
    let lives : List ℕ = flat_map live_out_numbers one.live_outs in
    let places : List ℕ = flat_map place_numbers one.places in
    let first : List ℕ = padding_numbers (16 + 12 * n) in
    let last : List ℕ = padding_numbers (4 + 4 * l) in
    let c = live_outs-fill one.live_outs (padded (4 + 4 * l) next) (last ++ ns) fit.live_outs (padded-fill (4 + 4 * l) next ns fills) in
    let b : Fills (middle next) (0 ∷ l ∷ (lives ++ (last ++ ns))) = (zero-allowed-2, (allowed-any 2 l fit.few_live_outs, c)) in
    let a = places-fill constants one.places (padded (16 + 12 * n) (middle next)) (first ++ (0 ∷ l ∷ (lives ++ (last ++ ns)))) fit.places (padded-fill (16 + 12 * n) (middle next) (0 ∷ l ∷ (lives ++ (last ++ ns))) b) in
    let behind = subst (Fills (places_then constants n (padded (16 + 12 * n) (middle next)))) (sym (regroup places first lives last ns l)) a in
    (allowed-any 8 one.id fit.id, (allowed-any 4 one.offset fit.offset, (zero-allowed-2, (allowed-any 2 n fit.few_places, behind))))

records-fill : (constants : ℕ) (records : List MapRecord) (next : Format) (ns : List ℕ) → AllByRecursion (RecordFits constants) records → Fills next ns
    → Fills (records_then constants (length records) next) (flat_map record_numbers records ++ ns)
unfolding records_then
records-fill constants [] next ns fit fills = fills
records-fill constants (r ∷ rs) next ns fit fills =
    let later : Format = records_then constants (length rs) next in
    subst (Fills (record_then constants later)) (sym (append_assoc (record_numbers r) (flat_map record_numbers rs) ns))
    (record-fill constants r later (flat_map record_numbers rs ++ ns) fit.0 (records-fill constants rs next ns fit.1 fills))

behind-fill : (constants records counted : ℕ) (ns : List ℕ) → counted ≡ records → Fills (constants_then constants (records_then constants records ends)) ns → Fills (behind_functions constants records counted) ns
unfolding behind_functions
behind-fill constants records counted ns is fills = (eq-eqb counted records is, fills)

places-signed : (constants : ℕ) (places : List Place) → AllByRecursion (PlaceFits constants) places → AreSigned places
places-signed constants [] fit = tt
places-signed constants (p ∷ ps) fit = (fit.0.offset, places-signed constants ps fit.1)

records-signed : (constants : ℕ) (records : List MapRecord) → AllByRecursion (RecordFits constants) records → AllByRecursion (λ one. AreSigned one.places) records
records-signed constants [] fit = tt
records-signed constants (r ∷ rs) fit = (places-signed constants r.places fit.0.places, records-signed constants rs fit.1)

-- a map whose numbers fit is one
pub fits-map : (map : StackMap) → MapFits map → IsMap map
unfolding map_format map_numbers
fits-map map fit =
    let c = length map.constants in
    let r = length map.records in
    let numbers : List ℕ = flat_map record_numbers map.records in
    let records : Fills (records_then c r ends) numbers = subst (Fills (records_then c r ends)) (append-nil numbers) (records-fill c map.records ends [] fit.records tt) in
    let constants = constants-fill map.constants (records_then c r ends) numbers fit.constants records in
    let counted : 0 + counted_records map.functions ≡ r = omega (arith, fit.counted) in
    let functions = functions-fill map.functions 0 (behind_functions c r) (map.constants ++ numbers) fit.functions (behind-fill c r (0 + counted_records map.functions) (map.constants ++ numbers) counted constants) in
    record {
      fills = (
        fixed-allowed 1 3 BadVersion (lit< tt),
        (zero-allowed-1, (zero-allowed-2, (allowed-any 4 (length map.functions) fit.few_functions, (allowed-any 4 c fit.few_constants, (allowed-any 4 r fit.few_records, functions))))),
      );
      signed = records-signed c map.records fit.records;
    }
