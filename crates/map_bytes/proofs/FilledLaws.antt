-- Numbers that fill the table of fields are those of a map.
use Rattle.std.proofs.Common.{◌≡◌, ℕ, zero, suc, ◌+◌, ◌*◌, ◌%◌, ◌^◌, ◌<◌, Bool, true, false, cond, eqb, List, [], ◌∷◌, ◌++◌, length, Option, Some, None, Fits, refl, sym, ap, subst, ◌∙◌, append_assoc, arith}
use Rattle.std.specs.Prelude.{FitsSigned}
use Rattle.std.proofs.lemmas.Bool.{eqb-true}
use Rattle.std.proofs.lemmas.Int.{of_z-to_z}
use Rattle.std.proofs.lemmas.List.{append-nil}
use Rattle.std.proofs.Math.Facts.{sfits_to_z}
use Rattle.std.specs.List.{flat_map, AllByRecursion}
use Rattle.std.specs.Int.{w32, cast_signed, cast_unsigned}
use Rattle.map_bytes.specs.declared.rules.MapRule.{MapRule}
use Rattle.map_bytes.specs.declared.rules.MapRule.TheVariants.{BadReserved, BadVersion}
use Rattle.map_bytes.specs.declared.values.FuncEntry.{FuncEntry}
use Rattle.map_bytes.specs.declared.values.Place.{Place}
use Rattle.map_bytes.specs.Formats.{Format, ends, field, IsAllowed, Fills}
use Rattle.map_bytes.specs.Tables.{any, fixed, reserved, padded, functions_then, constants_then, places_then, live_outs_then, record_then, records_then, behind_functions, map_format}
use Rattle.map_bytes.specs.Maps.{LiveOut, MapRecord, StackMap, function_numbers, place_numbers, live_out_numbers, padding_numbers, record_numbers, map_numbers, counted_records}

-- a field that must hold a number holds it
pub fixed-holds : (b : Bool) (rule : MapRule) (found : Option MapRule) → cond b None (Some rule) ≡ None → b ≡ true
fixed-holds true rule found e = refl
fixed-holds false rule found e = absurd cc

fixed-is : (size number : ℕ) (rule : MapRule) (n : ℕ) → IsAllowed (fixed size number rule) n → n ≡ number
fixed-is size number rule n allowed = eqb-true n number (fixed-holds (eqb n number) rule None allowed.breaks_none)

-- the functions of the first numbers, and what the others fill
pub record Functions (n counted : ℕ) (next : ℕ → Format) (ns : List ℕ) : Type 0 where
  pub functions : List FuncEntry
  pub rest : List ℕ
  pub many : length functions ≡ n
  pub numbers : ns ≡ flat_map function_numbers functions ++ rest
  pub fills : Fills (next (counted + counted_records functions)) rest

pub functions-filled : (n counted : ℕ) (next : ℕ → Format) (ns : List ℕ) → Fills (functions_then n counted next) ns → Functions n counted next ns
unfolding functions_then
functions-filled zero counted next ns fills = record {
  functions = [];
  rest = ns;
  many = refl;
  numbers = refl;
  fills = subst (λ (k : ℕ). Fills (next k) ns) (let e : counted ≡ counted + 0 = omega arith in e) fills;
}
functions-filled (suc n) counted next [] fills = absurd fills
functions-filled (suc n) counted next (a ∷ []) fills = absurd fills.1
functions-filled (suc n) counted next (a ∷ b ∷ []) fills = absurd fills.1.1
functions-filled (suc n) counted next (a ∷ b ∷ c ∷ ns) fills =
    let later = functions-filled n (counted + c) next ns fills.1.1.1 in
    let sum : counted + c + counted_records later.functions ≡ counted + (c + counted_records later.functions) = omega arith in
    record {
      functions = record { address = a; frame_bytes = b; records = c } ∷ later.functions;
      rest = later.rest;
      many = ap suc later.many;
      numbers = ap (λ (x : List ℕ). a ∷ b ∷ c ∷ x) later.numbers;
      fills = subst (λ (k : ℕ). Fills (next k) later.rest) sum later.fills;
    }

pub record Constants (n : ℕ) (next : Format) (ns : List ℕ) : Type 0 where
  pub constants : List ℕ
  pub rest : List ℕ
  pub many : length constants ≡ n
  pub numbers : ns ≡ constants ++ rest
  pub fills : Fills next rest

pub constants-filled : (n : ℕ) (next : Format) (ns : List ℕ) → Fills (constants_then n next) ns → Constants n next ns
unfolding constants_then
constants-filled zero next ns fills = record { constants = []; rest = ns; many = refl; numbers = refl; fills = fills }
constants-filled (suc n) next [] fills = absurd fills
constants-filled (suc n) next (c ∷ ns) fills =
    let later = constants-filled n next ns fills.1 in
    record { constants = c ∷ later.constants; rest = later.rest; many = ap suc later.many; numbers = ap (λ (x : List ℕ). c ∷ x) later.numbers; fills = later.fills }

abbrev pub AreSigned : List Place → Type 0
AreSigned places = AllByRecursion (λ place. FitsSigned w32 place.offset) places

pub record Places (n : ℕ) (next : Format) (ns : List ℕ) : Type 0 where
  pub places : List Place
  pub rest : List ℕ
  pub many : length places ≡ n
  pub numbers : ns ≡ flat_map place_numbers places ++ rest
  pub signed : AreSigned places
  pub fills : Fills next rest

pub places-filled : (constants n : ℕ) (next : Format) (ns : List ℕ) → Fills (places_then constants n next) ns → Places n next ns
unfolding places_then
places-filled constants zero next ns fills = record { places = []; rest = ns; many = refl; numbers = refl; signed = tt; fills = fills }
places-filled constants (suc n) next [] fills = absurd fills
places-filled constants (suc n) next (kind ∷ []) fills = absurd fills.1
places-filled constants (suc n) next (kind ∷ a ∷ []) fills = absurd fills.1.1
places-filled constants (suc n) next (kind ∷ a ∷ size ∷ []) fills = absurd fills.1.1.1
places-filled constants (suc n) next (kind ∷ a ∷ size ∷ register ∷ []) fills = absurd fills.1.1.1.1
places-filled constants (suc n) next (kind ∷ a ∷ size ∷ register ∷ b ∷ []) fills = absurd fills.1.1.1.1.1
places-filled constants (suc n) next (kind ∷ a ∷ size ∷ register ∷ b ∷ offset ∷ ns) fills =
    let later = places-filled constants n next ns fills.1.1.1.1.1.1 in
    let first : a ≡ 0 = fixed-is 1 0 BadReserved a fills.1.0 in
    let second : b ≡ 0 = fixed-is 2 0 BadReserved b fills.1.1.1.1.0 in
    let small : offset < 2 ^ 32 = fills.1.1.1.1.1.0.fits in
    let back : cast_unsigned w32 (cast_signed w32 offset) ≡ offset = of_z-to_z w32 offset small in
    let fits : Fits w32 offset = omega arith in
    record {
      places = record { kind = kind; size = size; register = register; offset = cast_signed w32 offset } ∷ later.places;
      rest = later.rest;
      many = ap suc later.many;
      numbers = ap (λ (x : ℕ). kind ∷ x ∷ size ∷ register ∷ b ∷ offset ∷ ns) first ∙ ap (λ (x : ℕ). kind ∷ 0 ∷ size ∷ register ∷ x ∷ offset ∷ ns) second
          ∙ ap (λ (x : ℕ). kind ∷ 0 ∷ size ∷ register ∷ 0 ∷ x ∷ ns) (sym back) ∙ ap (λ (x : List ℕ). kind ∷ 0 ∷ size ∷ register ∷ 0 ∷ cast_unsigned w32 (cast_signed w32 offset) ∷ x) later.numbers;
      signed = (sfits_to_z fits, later.signed);
      fills = later.fills;
    }

pub record LiveOuts (n : ℕ) (next : Format) (ns : List ℕ) : Type 0 where
  pub live_outs : List LiveOut
  pub rest : List ℕ
  pub many : length live_outs ≡ n
  pub numbers : ns ≡ flat_map live_out_numbers live_outs ++ rest
  pub fills : Fills next rest

pub live_outs-filled : (n : ℕ) (next : Format) (ns : List ℕ) → Fills (live_outs_then n next) ns → LiveOuts n next ns
unfolding live_outs_then
live_outs-filled zero next ns fills = record { live_outs = []; rest = ns; many = refl; numbers = refl; fills = fills }
live_outs-filled (suc n) next [] fills = absurd fills
live_outs-filled (suc n) next (register ∷ []) fills = absurd fills.1
live_outs-filled (suc n) next (register ∷ a ∷ []) fills = absurd fills.1.1
live_outs-filled (suc n) next (register ∷ a ∷ size ∷ ns) fills =
    let later = live_outs-filled n next ns fills.1.1.1 in
    let first : a ≡ 0 = fixed-is 1 0 BadReserved a fills.1.0 in
    record {
      live_outs = record { register = register; size = size } ∷ later.live_outs;
      rest = later.rest;
      many = ap suc later.many;
      numbers = ap (λ (x : ℕ). register ∷ x ∷ size ∷ ns) first ∙ ap (λ (x : List ℕ). register ∷ 0 ∷ size ∷ x) later.numbers;
      fills = later.fills;
    }

-- padding, and what the others fill
pub record Padded (aligned : Bool) (next : Format) (ns : List ℕ) : Type 0 where
  pub rest : List ℕ
  pub numbers : ns ≡ cond aligned [] (0 ∷ []) ++ rest
  pub fills : Fills next rest

pub padded-by : (aligned : Bool) (next : Format) (ns : List ℕ) → Fills (cond aligned next (field (reserved 4) (λ _. next))) ns → Padded aligned next ns
padded-by true next ns fills = record { rest = ns; numbers = refl; fills = fills }
padded-by false next [] fills = absurd fills
padded-by false next (a ∷ ns) fills = record { rest = ns; numbers = ap (λ (x : ℕ). x ∷ ns) (fixed-is 4 0 BadReserved a fills.0); fills = fills.1 }

pub padded-filled : (bytes : ℕ) (next : Format) (ns : List ℕ) → Fills (padded bytes next) ns → Padded (eqb (bytes % 8) 0) next ns
unfolding padded
padded-filled bytes next ns fills = padded-by (eqb (bytes % 8) 0) next ns fills

pub record OneRecord (next : Format) (ns : List ℕ) : Type 0 where
  pub one : MapRecord
  pub rest : List ℕ
  pub numbers : ns ≡ record_numbers one ++ rest
  pub signed : AreSigned one.places
  pub fills : Fills next rest

abbrev middle : Format → Format
middle next = field (reserved 2) (λ _. field (any 2) (λ l. live_outs_then l (padded (4 + 4 * l) next)))

-- the live-outs of a record and what stands around them
record LiveHalf (next : Format) (ns : List ℕ) : Type 0 where
  pub live_outs : List LiveOut
  pub rest : List ℕ
  pub numbers : ns ≡ 0 ∷ length live_outs ∷ (flat_map live_out_numbers live_outs ++ (padding_numbers (4 + 4 * length live_outs) ++ rest))
  pub fills : Fills next rest

live-half : (next : Format) (ns : List ℕ) → Fills (middle next) ns → LiveHalf next ns
live-half next [] fills = absurd fills
live-half next (a ∷ []) fills = absurd fills.1
live-half next (a ∷ l ∷ ns) fills =
    let lives = live_outs-filled l (padded (4 + 4 * l) next) ns fills.1.1 in
    let last = padded-filled (4 + 4 * l) next lives.rest lives.fills in
    let zero_first : a ≡ 0 = fixed-is 2 0 BadReserved a fills.0 in
    record {
      live_outs = lives.live_outs;
      rest = last.rest;
      numbers = ap (λ (x : ℕ). x ∷ l ∷ ns) zero_first ∙ ap (λ (x : List ℕ). 0 ∷ l ∷ x) (lives.numbers ∙ ap (λ (x : List ℕ). flat_map live_out_numbers lives.live_outs ++ x) last.numbers)
          ∙ ap (λ (k : ℕ). 0 ∷ k ∷ (flat_map live_out_numbers lives.live_outs ++ (padding_numbers (4 + 4 * k) ++ last.rest))) (sym lives.many);
      fills = last.fills;
    }

regroup : (a b c d rest : List ℕ) → (l : ℕ) → a ++ (b ++ (0 ∷ l ∷ (c ++ (d ++ rest)))) ≡ (a ++ (b ++ (0 ∷ l ∷ (c ++ d)))) ++ rest
regroup a b c d rest l = simp append_assoc

pub record-filled : (constants : ℕ) (next : Format) (ns : List ℕ) → Fills (record_then constants next) ns → OneRecord next ns
unfolding record_then record_numbers
record-filled constants next [] fills = absurd fills
record-filled constants next (id ∷ []) fills = absurd fills.1
record-filled constants next (id ∷ offset ∷ []) fills = absurd fills.1.1
record-filled constants next (id ∷ offset ∷ a ∷ []) fills = absurd fills.1.1.1
record-filled constants next (id ∷ offset ∷ a ∷ n ∷ ns) fills =
    let places = places-filled constants n (padded (16 + 12 * n) (middle next)) ns fills.1.1.1.1 in
    let first = padded-filled (16 + 12 * n) (middle next) places.rest places.fills in
    let lives = live-half next first.rest first.fills in
    let zero_third : a ≡ 0 = fixed-is 2 0 BadReserved a fills.1.1.0 in
    let l = length lives.live_outs in
    let behind : List ℕ = flat_map place_numbers places.places in
    record {
      one = record { id = id; offset = offset; places = places.places; live_outs = lives.live_outs };
      rest = lives.rest;
      numbers = ap (λ (x : ℕ). id ∷ offset ∷ x ∷ n ∷ ns) zero_third
          ∙ ap (λ (x : List ℕ). id ∷ offset ∷ 0 ∷ n ∷ x)
          (places.numbers ∙ ap (λ (x : List ℕ). behind ++ x) (first.numbers ∙ ap (λ (x : List ℕ). padding_numbers (16 + 12 * n) ++ x) lives.numbers)
          ∙ regroup behind (padding_numbers (16 + 12 * n)) (flat_map live_out_numbers lives.live_outs) (padding_numbers (4 + 4 * l)) lives.rest l)
          ∙ ap (λ (k : ℕ). id ∷ offset ∷ 0 ∷ k ∷ ((behind ++ (padding_numbers (16 + 12 * k) ++ (0 ∷ l ∷ (flat_map live_out_numbers lives.live_outs ++ padding_numbers (4 + 4 * l))))) ++ lives.rest)) (sym places.many);
      signed = places.signed;
      fills = lives.fills;
    }

pub record Records (n : ℕ) (next : Format) (ns : List ℕ) : Type 0 where
  pub records : List MapRecord
  pub rest : List ℕ
  pub many : length records ≡ n
  pub numbers : ns ≡ flat_map record_numbers records ++ rest
  pub signed : AllByRecursion (λ one. AreSigned one.places) records
  pub fills : Fills next rest

pub records-filled : (constants n : ℕ) (next : Format) (ns : List ℕ) → Fills (records_then constants n next) ns → Records n next ns
unfolding records_then
records-filled constants zero next ns fills = record { records = []; rest = ns; many = refl; numbers = refl; signed = tt; fills = fills }
records-filled constants (suc n) next ns fills =
    let first = record-filled constants (records_then constants n next) ns fills in
    let later = records-filled constants n next first.rest first.fills in
    record {
      records = first.one ∷ later.records;
      rest = later.rest;
      many = ap suc later.many;
      numbers = first.numbers ∙ ap (λ (x : List ℕ). record_numbers first.one ++ x) later.numbers ∙ sym (append_assoc (record_numbers first.one) (flat_map record_numbers later.records) later.rest);
      signed = (first.signed, later.signed);
      fills = later.fills;
    }

-- the map of numbers that fill the table
pub record MapOf (ns : List ℕ) : Type 0 where
  pub map : StackMap
  pub numbers : ns ≡ map_numbers map
  pub signed : AllByRecursion (λ one. AreSigned one.places) map.records

ends-filled : (ns : List ℕ) → Fills ends ns → ns ≡ []
ends-filled [] fills = refl
ends-filled (n ∷ ns) fills = absurd fills

behind-filled : (constants records counted : ℕ) (ns : List ℕ) → Fills (behind_functions constants records counted) ns → Fills (constants_then constants (records_then constants records ends)) ns
unfolding behind_functions
behind-filled constants records counted ns fills = fills.1

pub map-filled : (ns : List ℕ) → Fills map_format ns → MapOf ns
unfolding map_format map_numbers
map-filled [] fills = absurd fills
map-filled (v ∷ []) fills = absurd fills.1
map-filled (v ∷ a ∷ []) fills = absurd fills.1.1
map-filled (v ∷ a ∷ b ∷ []) fills = absurd fills.1.1.1
map-filled (v ∷ a ∷ b ∷ f ∷ []) fills = absurd fills.1.1.1.1
map-filled (v ∷ a ∷ b ∷ f ∷ c ∷ []) fills = absurd fills.1.1.1.1.1
map-filled (v ∷ a ∷ b ∷ f ∷ c ∷ r ∷ ns) fills =
    let functions = functions-filled f 0 (behind_functions c r) ns fills.1.1.1.1.1.1 in
    let constants = constants-filled c (records_then c r ends) functions.rest (behind-filled c r _ functions.rest functions.fills) in
    let records = records-filled c r ends constants.rest constants.fills in
    let nothing : records.rest ≡ [] = ends-filled records.rest records.fills in
    let version : v ≡ 3 = fixed-is 1 3 BadVersion v fills.0 in
    let first : a ≡ 0 = fixed-is 1 0 BadReserved a fills.1.0 in
    let second : b ≡ 0 = fixed-is 2 0 BadReserved b fills.1.1.0 in
    let tail : ns ≡ flat_map function_numbers functions.functions ++ (constants.constants ++ flat_map record_numbers records.records)
    = functions.numbers ∙ ap (λ (x : List ℕ). flat_map function_numbers functions.functions ++ x)
    (constants.numbers ∙ ap (λ (x : List ℕ). constants.constants ++ x) (records.numbers ∙ ap (λ (x : List ℕ). flat_map record_numbers records.records ++ x) nothing ∙ append-nil (flat_map record_numbers records.records))) in
    record {
      map = record { functions = functions.functions; constants = constants.constants; records = records.records };
      numbers = ap (λ (x : ℕ). x ∷ a ∷ b ∷ f ∷ c ∷ r ∷ ns) version ∙ ap (λ (x : ℕ). 3 ∷ x ∷ b ∷ f ∷ c ∷ r ∷ ns) first ∙ ap (λ (x : ℕ). 3 ∷ 0 ∷ x ∷ f ∷ c ∷ r ∷ ns) second
          ∙ ap (λ (x : ℕ). 3 ∷ 0 ∷ 0 ∷ x ∷ c ∷ r ∷ ns) (sym functions.many) ∙ ap (λ (x : ℕ). 3 ∷ 0 ∷ 0 ∷ length functions.functions ∷ x ∷ r ∷ ns) (sym constants.many)
          ∙ ap (λ (x : ℕ). 3 ∷ 0 ∷ 0 ∷ length functions.functions ∷ length constants.constants ∷ x ∷ ns) (sym records.many)
          ∙ ap (λ (x : List ℕ). 3 ∷ 0 ∷ 0 ∷ length functions.functions ∷ length constants.constants ∷ length records.records ∷ x) tail;
      signed = records.signed;
    }
