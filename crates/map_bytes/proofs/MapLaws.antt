-- Bytes are one map or have one first fault.
use Rattle.std.proofs.Common.{◌≡◌, ℕ, ◌+◌, ◌-◌, ◌*◌, ◌%◌, ◌≤◌, Bool, true, false, cond, eqb, ltb, List, [], ◌∷◌, ◌++◌, length, Option, Some, None, ◌⊎◌, inl, inr, refl, sym, ap, subst, ◌∙◌, append_assoc, arith}
use Rattle.std.proofs.lemmas.Bool.{eqb-true, eqb-false, le-ltb}
use Rattle.std.proofs.lemmas.List.{length-append, append_cancel_left}
use Rattle.byteorder.specs.Endian.{little_bytes, little_number}
use Rattle.byteorder.specs.Numbers.{little_number-reads_back, length-bytes_low_first}
use Rattle.map_bytes.specs.declared.rules.MapRule.TheVariants.{Short}
use Rattle.map_bytes.specs.declared.rules.MapFault.{MapFault}
use Rattle.map_bytes.specs.Formats.{AreBytes, Field, Format, ends, field, asks, laid, IsAllowed, Fills}
use Rattle.map_bytes.specs.Tables.{map_format}
use Rattle.map_bytes.specs.Maps.{MapRecord, StackMap, map_bytes, record_bytes, IsMap, IsMapOf}
use Rattle.map_bytes.specs.Faults.{Begins, behind, fault_at, broken, first_fault, IsFirstFault}
use Rattle.map_bytes.specs.Reads.{map_read}
use Rattle.map_bytes.proofs.FormatLaws.{none_fills, fills_none, some_breaks, breaks_some}
use Rattle.map_bytes.proofs.FilledLaws.{map-filled}
use Rattle.map_bytes.proofs.FitsLaws.{map-fits}
use Rattle.map_bytes.proofs.ReadLaws.{map-back, length-record}

-- ---- maps

pub one_map : (bytes : List ℕ) (one other : StackMap) → IsMapOf bytes one → IsMapOf bytes other → one ≡ other
one_map bytes one other is also =
    sym (map-back one bytes (map-fits one is.allowed) is.spelled).read ∙ (map-back other bytes (map-fits other also.allowed) also.spelled).read

-- bytes in which no fault is found are the map that is read there
pub faultless_map : (bytes : List ℕ) → AreBytes bytes → first_fault map_format (length bytes) bytes ≡ None → IsMapOf bytes (map_read bytes)
unfolding map_bytes
faultless_map bytes are e =
    let filled = none_fills map_format (length bytes) bytes are e in
    let m = map-filled filled.0 filled.1 in
    let allowed : IsMap m.map = record { fills = subst (Fills map_format) m.numbers filled.1; signed = m.signed } in
    let spelled : bytes ≡ map_bytes m.map = filled.2 ∙ ap (laid map_format) m.numbers in
    let is : IsMapOf bytes m.map = record { allowed = allowed; spelled = spelled } in
    subst (IsMapOf bytes) (sym (map-back m.map bytes (map-fits m.map allowed) spelled).read) is

pub map_faultless : (bytes : List ℕ) (map : StackMap) (whole : ℕ) → IsMapOf bytes map → first_fault map_format whole bytes ≡ None
unfolding map_bytes
map_faultless bytes map whole is = ap (first_fault map_format whole) is.spelled ∙ fills_none map_format _ whole is.allowed.fills

-- ---- faults

pub fault_found : (bytes : List ℕ) (fault : MapFault) → IsFirstFault bytes fault → first_fault map_format (length bytes) bytes ≡ Some fault
fault_found bytes fault is =
    let len : length bytes ≡ length (laid map_format is.numbers) + length is.rest = ap length is.front ∙ length-append (laid map_format is.numbers) is.rest in
    let at : length (laid map_format is.numbers) ≡ length bytes - length is.rest = omega arith in
    ap (first_fault map_format (length bytes)) is.front
    ∙ breaks_some map_format is.numbers is.rest (length bytes) fault is.begins (ap (λ (k : ℕ). broken (behind map_format is.numbers) k is.rest) (sym at) ∙ is.next_breaks)

pub found_fault : (bytes : List ℕ) (fault : MapFault) → AreBytes bytes → first_fault map_format (length bytes) bytes ≡ Some fault → IsFirstFault bytes fault
found_fault bytes fault are e =
    let b = some_breaks map_format (length bytes) bytes fault are e in
    let len : length bytes ≡ length (laid map_format b.numbers) + length b.rest = ap length b.front ∙ length-append (laid map_format b.numbers) b.rest in
    let at : length (laid map_format b.numbers) ≡ length bytes - length b.rest = omega arith in
    record {
      numbers = b.numbers;
      rest = b.rest;
      begins = b.begins;
      front = b.front;
      next_breaks = ap (λ (k : ℕ). broken (behind map_format b.numbers) k b.rest) at ∙ b.next_breaks;
    }

some_is : (one other : MapFault) (o : Option MapFault) → o ≡ Some one → o ≡ Some other → one ≡ other
some_is one other o e also = cc

pub one_fault : (bytes : List ℕ) (one other : MapFault) → IsFirstFault bytes one → IsFirstFault bytes other → one ≡ other
one_fault bytes one other is also = some_is one other (first_fault map_format (length bytes) bytes) (fault_found bytes one is) (fault_found bytes other also)

both_found : (fault : MapFault) (o : Option MapFault) → o ≡ None → o ≡ Some fault → ⊥
both_found fault o e also = cc

pub not_both : (bytes : List ℕ) (map : StackMap) (fault : MapFault) → IsMapOf bytes map → IsFirstFault bytes fault → ⊥
not_both bytes map fault is also = both_found fault (first_fault map_format (length bytes) bytes) (map_faultless bytes map (length bytes) is) (fault_found bytes fault also)

either_by : (bytes : List ℕ) (found : Option MapFault) → AreBytes bytes → first_fault map_format (length bytes) bytes ≡ found → ((map : StackMap) × IsMapOf bytes map) ⊎ ((fault : MapFault) × IsFirstFault bytes fault)
either_by bytes None are e = inl (map_read bytes, faultless_map bytes are e)
either_by bytes (Some fault) are e = inr (fault, found_fault bytes fault are e)

pub either : (bytes : List ℕ) → AreBytes bytes → ((map : StackMap) × IsMapOf bytes map) ⊎ ((fault : MapFault) × IsFirstFault bytes fault)
either bytes are = either_by bytes (first_fault map_format (length bytes) bytes) are refl

-- ---- the list of numbers before the fault is the longest

none-some : (fault : MapFault) (o : Option MapFault) → o ≡ None → o ≡ Some fault → ⊥
none-some fault o e also = cc

-- a field whose number is allowed isn't broken
whole_field : (one : Field) (next : ℕ → Format) (at n : ℕ) (rest : List ℕ) → IsAllowed one n → broken (field one next) at (little_bytes one.bytes n ++ rest) ≡ None
whole_field one next at n rest allowed =
    let bs : List ℕ = little_bytes one.bytes n ++ rest in
    let len : length (little_bytes one.bytes n) ≡ one.bytes = length-bytes_low_first 0 one.bytes n in
    let long : ltb (length bs) one.bytes ≡ false = le-ltb _ _ (omega (arith, length-append (little_bytes one.bytes n) rest, len)) in
    let number : little_number one.bytes bs ≡ n = little_number-reads_back one.bytes n rest allowed.fits in
    ap (λ (b : Bool). cond b (Some (record { at = at; rule = Short })) (fault_at at (one.breaks (little_number one.bytes bs)))) long
    ∙ ap (λ (x : ℕ). fault_at at (one.breaks x)) number ∙ ap (fault_at at) allowed.breaks_none

pub longest : (format : Format) (numbers others rest more : List ℕ) (at : ℕ) (fault : MapFault) → Begins format numbers → Begins format others → laid format numbers ++ rest ≡ laid format others ++ more
    → broken (behind format numbers) at rest ≡ Some fault → length others ≤ length numbers
unfolding laid
longest ends numbers [] rest more at fault begins others same breaks = omega arith
longest ends numbers (o ∷ os) rest more at fault begins others same breaks = absurd others
longest (field one next) numbers [] rest more at fault begins others same breaks = omega arith
longest (field one next) [] (o ∷ os) rest more at fault begins others same breaks =
    let grouped : rest ≡ little_bytes one.bytes o ++ (laid (next o) os ++ more) = same ∙ append_assoc (little_bytes one.bytes o) (laid (next o) os) more in
    absurd (none-some fault (broken (field one next) at rest) (ap (broken (field one next) at) grouped ∙ whole_field one next at o (laid (next o) os ++ more) others.0) breaks)
longest (field one next) (n ∷ ns) (o ∷ os) rest more at fault begins others same breaks =
    let k = one.bytes in
    let left : List ℕ = laid (next n) ns ++ rest in
    let right : List ℕ = laid (next o) os ++ more in
    let grouped : little_bytes k n ++ left ≡ little_bytes k o ++ right
    = sym (append_assoc (little_bytes k n) (laid (next n) ns) rest) ∙ same ∙ append_assoc (little_bytes k o) (laid (next o) os) more in
    let number : n ≡ o = sym (little_number-reads_back k n left begins.0.fits) ∙ ap (little_number k) grouped ∙ little_number-reads_back k o right others.0.fits in
    let tails : left ≡ right = append_cancel_left (little_bytes k o) left right (ap (λ (x : ℕ). little_bytes k x ++ left) (sym number) ∙ grouped) in
    let later : Begins (next n) os = subst (λ (x : ℕ). Begins (next x) os) (sym number) others.1 in
    let ih : length os ≤ length ns = longest (next n) ns os rest more at fault begins.1 later (tails ∙ ap (λ (x : ℕ). laid (next x) os ++ more) (sym number)) breaks in
    omega arith
longest (asks holds one next) numbers [] rest more at fault begins others same breaks = omega arith
longest (asks true one next) [] (o ∷ os) rest more at fault begins others same breaks =
    longest next [] (o ∷ os) rest more at fault (nothing next) others.1 same (ap (λ (f : Format). broken f at rest) (behind-nothing next) ∙ breaks) where
      nothing : (f : Format) → Begins f []
      nothing ends = tt
      nothing (field one next) = tt
      nothing (asks holds one next) = tt

      behind-nothing : (f : Format) → behind f [] ≡ f
      behind-nothing ends = refl
      behind-nothing (field one next) = refl
      behind-nothing (asks holds one next) = refl
longest (asks false one next) [] (o ∷ os) rest more at fault begins others same breaks = absurd (let e : false ≡ true = others.0 in cc)
longest (asks holds one next) (n ∷ ns) (o ∷ os) rest more at fault begins others same breaks = longest next (n ∷ ns) (o ∷ os) rest more at fault begins.1 others.1 same breaks

-- ---- alignment

aligned-by : (bytes : ℕ) (b : Bool) → eqb (bytes % 8) 0 ≡ b → bytes % 4 ≡ 0 → (bytes + cond b 0 4) % 8 ≡ 0
aligned-by bytes true e four = let whole : bytes % 8 ≡ 0 = eqb-true (bytes % 8) 0 e in omega arith
aligned-by bytes false e four = let no : bytes % 8 ≡ 0 → ⊥ = eqb-false (bytes % 8) 0 e in omega arith

pub aligned : (one : MapRecord) → length (record_bytes one) % 8 ≡ 0
aligned one =
    let n = length one.places in
    let l = length one.live_outs in
    let a = aligned-by (16 + 12 * n) (eqb ((16 + 12 * n) % 8) 0) refl (omega arith) in
    let b = aligned-by (4 + 4 * l) (eqb ((4 + 4 * l) % 8) 0) refl (omega arith) in
    omega (arith, length-record one)
