-- Looking at the fields in order finds the first fault, or nothing where the bytes are those of numbers that fill the format.
use Rattle.std.proofs.Common.{◌≡◌, ℕ, ◌-◌, Bool, true, false, cond, ltb, List, [], ◌∷◌, ◌++◌, length, drop, Option, Some, None, ◌⊎◌, inl, inr, refl, sym, ap, ◌∙◌, append_assoc, arith}
use Rattle.std.proofs.lemmas.Bool.{ltb-false, le-ltb}
use Rattle.std.proofs.lemmas.List.{drop_at, take-append-drop, length-append}
use Rattle.byteorder.specs.Endian.{little_bytes, little_number}
use Rattle.byteorder.specs.Numbers.{little_from-lt, little_number-reads_back, length-bytes_low_first}
use Rattle.map_bytes.specs.declared.rules.MapRule.{MapRule}
use Rattle.map_bytes.specs.declared.rules.MapRule.TheVariants.{Short}
use Rattle.map_bytes.specs.declared.rules.MapFault.{MapFault}
use Rattle.map_bytes.specs.Formats.{AreBytes, Field, Format, ends, field, asks, laid, IsAllowed, Fills}
use Rattle.map_bytes.specs.Faults.{Begins, behind, fault_at, broken, found_or, first_fault}
use Rattle.map_bytes.proofs.NumberLaws.{AreBytes-drop, little_bytes-number}

-- ---- one step

-- nothing is broken in a field that is whole and whose number breaks no rule
broken_none : (short : Bool) (one : MapFault) (at : ℕ) (breaks : Option MapRule) → cond short (Some one) (fault_at at breaks) ≡ None → (short ≡ false) × (breaks ≡ None)
broken_none true one at breaks e = absurd cc
broken_none false one at None e = (refl, refl)
broken_none false one at (Some rule) e = absurd cc

found_cases : (b : Option MapFault) (behind : ℕ → Option MapFault) (n : ℕ) (found : Option MapFault) → found_or b behind n ≡ found → ((b ≡ None) × (behind n ≡ found)) ⊎ ((fault : MapFault) × (b ≡ Some fault) × (found ≡ Some fault))
found_cases None behind n found e = inl (refl, e)
found_cases (Some fault) behind n found e = inr (fault, refl, sym e)

-- a field behind whose number the bytes go on
pub field_goes : (one : Field) (next : ℕ → Format) (whole n : ℕ) (rest : List ℕ) → IsAllowed one n → first_fault (field one next) whole (little_bytes one.bytes n ++ rest) ≡ first_fault (next n) whole rest
unfolding first_fault
field_goes one next whole n rest allowed =
    let bs : List ℕ = little_bytes one.bytes n ++ rest in
    let len : length (little_bytes one.bytes n) ≡ one.bytes = length-bytes_low_first 0 one.bytes n in
    let long : ltb (length bs) one.bytes ≡ false = le-ltb _ _ (omega (arith, length-append (little_bytes one.bytes n) rest, len)) in
    let number : little_number one.bytes bs ≡ n = little_number-reads_back one.bytes n rest allowed.fits in
    let dropped : drop one.bytes bs ≡ rest = drop_at (little_bytes one.bytes n) rest one.bytes len in
    let at : ℕ = whole - length bs in
    ap (λ (b : Bool). found_or (cond b (Some (record { at = at; rule = Short })) (fault_at at (one.breaks (little_number one.bytes bs)))) (λ m. first_fault (next m) whole (drop one.bytes bs)) (little_number one.bytes bs)) long
    ∙ ap (λ (x : ℕ). found_or (fault_at at (one.breaks x)) (λ m. first_fault (next m) whole (drop one.bytes bs)) x) number
    ∙ ap (λ (r : List ℕ). found_or (fault_at at (one.breaks n)) (λ m. first_fault (next m) whole r) n) dropped
    ∙ ap (λ (o : Option MapRule). found_or (fault_at at o) (λ m. first_fault (next m) whole rest) n) allowed.breaks_none

-- ---- bytes without a fault

abbrev pub Filled : Format → List ℕ → Type 0
Filled format bytes = (numbers : List ℕ) × Fills format numbers × (bytes ≡ laid format numbers)

field_filled : (one : Field) (next : ℕ → Format) (bs : List ℕ) → AreBytes bs → ltb (length bs) one.bytes ≡ false → one.breaks (little_number one.bytes bs) ≡ None
    → Filled (next (little_number one.bytes bs)) (drop one.bytes bs) → Filled (field one next) bs
unfolding laid
field_filled one next bs bytes long breaks rest =
    let n = little_number one.bytes bs in
    let front = little_bytes-number one.bytes bs (ltb-false _ _ long) bytes in (
      n ∷ rest.0,
      (record { fits = little_from-lt 0 one.bytes bs bytes; breaks_none = breaks }, rest.1),
      sym (take-append-drop one.bytes bs) ∙ ap (λ (x : List ℕ). x ++ drop one.bytes bs) (sym front) ∙ ap (λ (x : List ℕ). little_bytes one.bytes n ++ x) rest.2,
    )

pub none_fills : (format : Format) (whole : ℕ) (bs : List ℕ) → AreBytes bs → first_fault format whole bs ≡ None → Filled format bs
unfolding first_fault laid
none_fills ends whole [] bytes e = ([], tt, refl)
none_fills ends whole (b ∷ bs) bytes e = absurd cc
none_fills (field one next) whole bs bytes e =
    let at : ℕ = whole - length bs in
    let n = little_number one.bytes bs in
    let found : Option MapFault = None in
    elim (found_cases (broken (field one next) at bs) (λ m. first_fault (next m) whole (drop one.bytes bs)) n found e) [
      | inl goes ↦
          let whole_field = broken_none (ltb (length bs) one.bytes) (record { at = at; rule = Short }) at (one.breaks n) goes.0 in
          field_filled one next bs bytes whole_field.0 whole_field.1 (none_fills (next n) whole (drop one.bytes bs) (AreBytes-drop one.bytes bs bytes) goes.1)
      | inr stops ↦ let e : found ≡ Some stops.0 = stops.2 in absurd cc
    ]
none_fills (asks true fault next) whole bs bytes e =
    let rest = none_fills next whole bs bytes e in
    (rest.0, (refl, rest.1), rest.2)
none_fills (asks false fault next) whole bs bytes e = absurd cc

pub fills_none : (format : Format) (numbers : List ℕ) (whole : ℕ) → Fills format numbers → first_fault format whole (laid format numbers) ≡ None
unfolding first_fault laid
fills_none ends [] whole fills = refl
fills_none ends (n ∷ ns) whole fills = absurd fills
fills_none (field one next) [] whole fills = absurd fills
fills_none (field one next) (n ∷ ns) whole fills = field_goes one next whole n (laid (next n) ns) fills.0 ∙ fills_none (next n) ns whole fills.1
fills_none (asks true fault next) ns whole fills = fills_none next ns whole fills.1
fills_none (asks false fault next) ns whole fills = absurd (let e : false ≡ true = fills.0 in cc)

-- ---- bytes with a fault

laid-nil : (format : Format) → laid format [] ≡ []
unfolding laid
laid-nil ends = refl
laid-nil (field one next) = refl
laid-nil (asks holds fault next) = laid-nil next

behind-nil : (format : Format) → behind format [] ≡ format
behind-nil ends = refl
behind-nil (field one next) = refl
behind-nil (asks holds fault next) = refl

Begins-nil : (format : Format) → Begins format []
Begins-nil ends = tt
Begins-nil (field one next) = tt
Begins-nil (asks holds fault next) = tt

-- the numbers behind which a field is broken, and the bytes that are left there
pub record Breaks (format : Format) (whole : ℕ) (bs : List ℕ) (fault : MapFault) : Type 0 where
  pub numbers : List ℕ
  pub rest : List ℕ
  pub begins : Begins format numbers
  pub front : bs ≡ laid format numbers ++ rest
  pub next_breaks : broken (behind format numbers) (whole - length rest) rest ≡ Some fault

breaks_here : (format : Format) (whole : ℕ) (bs : List ℕ) (fault : MapFault) → broken format (whole - length bs) bs ≡ Some fault → Breaks format whole bs fault
breaks_here format whole bs fault e = record {
  numbers = [];
  rest = bs;
  begins = Begins-nil format;
  front = sym (ap (λ (x : List ℕ). x ++ bs) (laid-nil format));
  next_breaks = ap (λ (f : Format). broken f (whole - length bs) bs) (behind-nil format) ∙ e;
}

field_breaks : (one : Field) (next : ℕ → Format) (whole : ℕ) (bs : List ℕ) (fault : MapFault) → AreBytes bs → ltb (length bs) one.bytes ≡ false → one.breaks (little_number one.bytes bs) ≡ None
    → Breaks (next (little_number one.bytes bs)) whole (drop one.bytes bs) fault → Breaks (field one next) whole bs fault
unfolding laid
field_breaks one next whole bs fault bytes long breaks later =
    let n = little_number one.bytes bs in
    let front = little_bytes-number one.bytes bs (ltb-false _ _ long) bytes in
    record {
      numbers = n ∷ later.numbers;
      rest = later.rest;
      begins = (record { fits = little_from-lt 0 one.bytes bs bytes; breaks_none = breaks }, later.begins);
      front = sym (take-append-drop one.bytes bs) ∙ ap (λ (x : List ℕ). x ++ drop one.bytes bs) (sym front) ∙ ap (λ (x : List ℕ). little_bytes one.bytes n ++ x) later.front
          ∙ sym (append_assoc (little_bytes one.bytes n) (laid (next n) later.numbers) later.rest);
      next_breaks = later.next_breaks;
    }

asks_breaks : (one : MapFault) (next : Format) (whole : ℕ) (bs : List ℕ) (fault : MapFault) (numbers rest : List ℕ) → Begins next numbers → bs ≡ laid next numbers ++ rest
    → broken (behind next numbers) (whole - length rest) rest ≡ Some fault → Breaks (asks true one next) whole bs fault
unfolding laid
asks_breaks one next whole bs fault [] rest begins front breaks = record {
  numbers = [];
  rest = rest;
  begins = tt;
  front = front;
  next_breaks = ap (λ (f : Format). broken f (whole - length rest) rest) (sym (behind-nil next)) ∙ breaks;
}
asks_breaks one next whole bs fault (n ∷ ns) rest begins front breaks = record {
  numbers = n ∷ ns;
  rest = rest;
  begins = (refl, begins);
  front = front;
  next_breaks = breaks;
}

pub some_breaks : (format : Format) (whole : ℕ) (bs : List ℕ) (fault : MapFault) → AreBytes bs → first_fault format whole bs ≡ Some fault → Breaks format whole bs fault
unfolding first_fault
some_breaks ends whole bs fault bytes e = breaks_here ends whole bs fault e
some_breaks (field one next) whole bs fault bytes e =
    let at : ℕ = whole - length bs in
    let n = little_number one.bytes bs in
    let found : Option MapFault = Some fault in
    elim (found_cases (broken (field one next) at bs) (λ m. first_fault (next m) whole (drop one.bytes bs)) n found e) [
      | inl goes ↦
          let whole_field = broken_none (ltb (length bs) one.bytes) (record { at = at; rule = Short }) at (one.breaks n) goes.0 in
          field_breaks one next whole bs fault bytes whole_field.0 whole_field.1 (some_breaks (next n) whole (drop one.bytes bs) fault (AreBytes-drop one.bytes bs bytes) goes.1)
      | inr stops ↦ breaks_here (field one next) whole bs fault (stops.1 ∙ sym stops.2)
    ]
some_breaks (asks true one next) whole bs fault bytes e =
    let later = some_breaks next whole bs fault bytes e in
    asks_breaks one next whole bs fault later.numbers later.rest later.begins later.front later.next_breaks
some_breaks (asks false one next) whole bs fault bytes e = breaks_here (asks false one next) whole bs fault e

pub breaks_some : (format : Format) (numbers rest : List ℕ) (whole : ℕ) (fault : MapFault) → Begins format numbers → broken (behind format numbers) (whole - length rest) rest ≡ Some fault
    → first_fault format whole (laid format numbers ++ rest) ≡ Some fault
unfolding first_fault laid
breaks_some ends [] rest whole fault begins e = e
breaks_some ends (n ∷ ns) rest whole fault begins e = absurd begins
breaks_some (field one next) [] rest whole fault begins e =
    ap (λ (b : Option MapFault). found_or b (λ m. first_fault (next m) whole (drop one.bytes rest)) (little_number one.bytes rest)) e
breaks_some (field one next) (n ∷ ns) rest whole fault begins e =
    ap (first_fault (field one next) whole) (append_assoc (little_bytes one.bytes n) (laid (next n) ns) rest)
    ∙ field_goes one next whole n (laid (next n) ns ++ rest) begins.0 ∙ breaks_some (next n) ns rest whole fault begins.1 e
breaks_some (asks true one next) [] rest whole fault begins e =
    breaks_some next [] rest whole fault (Begins-nil next) (ap (λ (f : Format). broken f (whole - length rest) rest) (behind-nil next) ∙ e)
breaks_some (asks true one next) (n ∷ ns) rest whole fault begins e = breaks_some next (n ∷ ns) rest whole fault begins.1 e
breaks_some (asks false one next) [] rest whole fault begins e = e
breaks_some (asks false one next) (n ∷ ns) rest whole fault begins e = absurd (let e : false ≡ true = begins.0 in cc)
