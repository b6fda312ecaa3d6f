-- Shapes as they are kept.
use Rattle.std.proofs.Common.{◌≡◌, ℕ, zero, suc, ◌+◌, ◌-◌, ◌*◌, ◌/◌, ◌<◌, ◌≤◌, Bool, true, false, cond, eqb, leb, ltb, inl, inr, List, [], ◌∷◌, ◌++◌, length, get_or, refl, sym, ap, ◌∙◌, arith, Option, Some, None}
use Rattle.std.specs.List.{find, All}
use Rattle.std.specs.List.Sorted.{IsNonDecreasingBy}
use Rattle.std.specs.Option.{option_map_or, option_map}
use Rattle.std.specs.Prelude.{slice_get}
use Rattle.std.proofs.lemmas.Bool.{eq-eqb, ne_eqb, eqb-true, cases_lt, cases_eq, lt-ltb, le-ltb}
use Rattle.std.proofs.lemmas.Nat.{div-mul-add}
use Rattle.std.proofs.lemmas.Option.{slice_get-get_or, slice_get_past}
use Rattle.std.proofs.lemmas.List.{length_push, get_or_push, get_or_append_left}
use Rattle.moving_heap.specs.declared.cells.Part.{Part}
use Rattle.moving_heap.specs.declared.cells.Counted.{Counted}
use Rattle.cell_rows.specs.declared.shapes.Shape.{Shape}
use Rattle.cell_rows.specs.Rows.{before, place_in, AreOrdered}
use Rattle.cell_rows.proofs.RowLemmas.{place_is, place_past}
use Rattle.moving_heap.specs.Contents.{width_of, counted, count_of, with_count, shape_from, shapes_from, shapes_of, begins, nothing_kept, place_by, stored_shape, AreRising, AreKept}
use Rattle.moving_heap.proofs.FindLemmas.{AtMostOne, find_at_index, find_nothing}
use Rattle.list_laws.proofs.Numbers.{less as below}

begins_next : (first : ℕ) (part : Part) (parts : List Part) (k : ℕ) → begins part.end parts k ≡ begins first (part ∷ parts) (suc k)
begins_next first part parts zero = refl
begins_next first part parts (suc k) = refl

-- the shape of an object
shape_in : (counts : List Counted) (object first : ℕ) (parts : List Part) (widths : List ℕ) (k : ℕ) (d : Shape) → length widths ≡ length parts → k < length parts
    → get_or (shapes_from counts object first parts widths) k d ≡ shape_from counts (object + k) (begins first parts k) (get_or parts k nothing_kept) (get_or widths k 0)
shape_in counts object first [] widths k d same l = absurd (omega arith)
shape_in counts object first (part ∷ parts) [] k d same l = absurd (omega arith)
shape_in counts object first (part ∷ parts) (width ∷ widths) zero d same l = let e : object + 0 ≡ object = omega arith in rw e refl
shape_in counts object first (part ∷ parts) (width ∷ widths) (suc k) d same l =
    let e : suc object + k ≡ object + suc k = omega arith in
    shape_in counts (suc object) part.end parts widths k d (let h : length widths ≡ length parts = omega arith in h) (below k (length parts) l)
    ∙ ap (λ (b : ℕ). shape_from counts (suc object + k) b (get_or parts k nothing_kept) (get_or widths k 0)) (begins_next first part parts k)
    ∙ ap (λ (o : ℕ). shape_from counts o (begins first (part ∷ parts) (suc k)) (get_or parts k nothing_kept) (get_or widths k 0)) e

pub shape_is_at : (parts : List Part) (widths : List ℕ) (counts : List Counted) (k : ℕ) (d : Shape) → AreKept parts widths counts → k < length parts
    → get_or (shapes_of parts widths counts) k d ≡ shape_from counts k (begins 0 parts k) (get_or parts k nothing_kept) (get_or widths k 0)
shape_is_at parts widths counts k d are l =
    let e : 0 + k ≡ k = omega arith in
    shape_in counts 0 0 parts widths k d are.same l ∙ ap (λ (o : ℕ). shape_from counts o (begins 0 parts k) (get_or parts k nothing_kept) (get_or widths k 0)) e

shapes-length : (counts : List Counted) (object first : ℕ) (parts : List Part) (widths : List ℕ) → length widths ≡ length parts → length (shapes_from counts object first parts widths) ≡ length parts
shapes-length counts object first [] widths same = refl
shapes-length counts object first (part ∷ parts) [] same = absurd (omega arith)
shapes-length counts object first (part ∷ parts) (width ∷ widths) same = ap suc (shapes-length counts (suc object) part.end parts widths (let h : length widths ≡ length parts = omega arith in h))

pub shapes_of-length : (parts : List Part) (widths : List ℕ) (counts : List Counted) → AreKept parts widths counts → length (shapes_of parts widths counts) ≡ length parts
shapes_of-length parts widths counts are = shapes-length counts 0 0 parts widths are.same

-- ---- a further object

find_push : {X : Type 0} (p : X → Bool) (xs : List X) (y : X) → p y ≡ false → find p (xs ++ y ∷ []) ≡ find p xs
find_push p [] y e = rw e refl
find_push p (x ∷ xs) y e =
    elim (p x) as (λ b. cond b (Some x) (find p (xs ++ y ∷ [])) ≡ cond b (Some x) (find p xs)) [ true ↦ refl | false ↦ find_push p xs y e ]

find_last : {X : Type 0} (p : X → Bool) (xs : List X) (y : X) → p y ≡ true → ((k : ℕ) (d : X) → k < length xs → p (get_or xs k d) ≡ false) → find p (xs ++ y ∷ []) ≡ Some y
find_last p [] y e none = rw e refl
find_last p (x ∷ xs) y e none =
    rw (none zero x (omega arith)) (find_last p xs y e (λ k d l. none (suc k) d (let h : suc k < suc (length xs) = omega arith in h)))

-- a count of a later object
shapes_kept : (counts : List Counted) (one : Counted) (object first : ℕ) (parts : List Part) (widths : List ℕ) → object + length parts ≤ one.object
    → shapes_from (counts ++ one ∷ []) object first parts widths ≡ shapes_from counts object first parts widths
shapes_kept counts one object first [] widths later = refl
shapes_kept counts one object first (part ∷ parts) [] later = refl
shapes_kept counts one object first (part ∷ parts) (width ∷ widths) later =
    let miss : eqb one.object object ≡ false = ne_eqb one.object object (λ e. let no : ⊥ = omega arith in no) in
    let here = ap (λ (o : Option Counted). option_map_or (λ (c : Counted). c.count) o 0) (find_push (λ (c : Counted). eqb c.object object) counts one miss) in
    ap (λ (n : ℕ). (let s : Shape = record { layout = part.layout; first = first; cells = part.end - first; count = cond (eqb width 0) n ((part.end - first) / width) } in s)
    ∷ shapes_from (counts ++ one ∷ []) (suc object) part.end parts widths) here
    ∙ ap (λ (l : List Shape). shape_from counts object first part width ∷ l) (shapes_kept counts one (suc object) part.end parts widths (omega arith))

shapes_push : (counts : List Counted) (object first : ℕ) (parts : List Part) (widths : List ℕ) (part : Part) (width : ℕ) → length widths ≡ length parts
    → shapes_from counts object first (parts ++ part ∷ []) (widths ++ width ∷ []) ≡ shapes_from counts object first parts widths ++ shape_from counts (object + length parts) (begins first parts (length parts)) part width ∷ []
shapes_push counts object first [] [] part width same = let e : object + 0 ≡ object = omega arith in rw e refl
shapes_push counts object first [] (w ∷ widths) part width same = absurd (omega arith)
shapes_push counts object first (p ∷ parts) [] part width same = absurd (omega arith)
shapes_push counts object first (p ∷ parts) (w ∷ widths) part width same =
    let e : suc object + length parts ≡ object + suc (length parts) = omega arith in
    ap (λ (l : List Shape). shape_from counts object first p w ∷ l)
    (shapes_push counts (suc object) p.end parts widths part width (let h : length widths ≡ length parts = omega arith in h)
    ∙ ap (λ (s : Shape). shapes_from counts (suc object) p.end parts widths ++ s ∷ [])
    (ap (λ (b : ℕ). shape_from counts (suc object + length parts) b part width) (begins_next first p parts (length parts))
    ∙ ap (λ (o : ℕ). shape_from counts o (begins first (p ∷ parts) (suc (length parts))) part width) e))

whole_count : (cells count width : ℕ) → cells ≡ count * width → (width ≡ 0 → ⊥) → cells / width ≡ count
whole_count cells count width e ne =
    let pos : 0 < width = grind arith in
    let same : cells ≡ count * width + 0 = omega arith in
    ap (λ (n : ℕ). n / width) same ∙ div-mul-add count width 0 pos

zero_width : (width : ℕ) → eqb width 0 ≡ false → width ≡ 0 → ⊥
zero_width width e z = absurd (let no : false ≡ true = sym e ∙ eq-eqb width 0 z in cc)

-- the shapes with that of a further object
pub shapes_added : (parts : List Part) (widths : List ℕ) (counts : List Counted) (layout end width count : ℕ) (b : Bool) → eqb width 0 ≡ b → AreKept parts widths counts
    → ((width ≡ 0 → ⊥) → end - begins 0 parts (length parts) ≡ count * width)
    → shapes_of (parts ++ record { layout = layout; end = end } ∷ []) (widths ++ width ∷ []) (with_count counts (length parts) count width)
    ≡ shapes_of parts widths counts ++ record { layout = layout; first = begins 0 parts (length parts); cells = end - begins 0 parts (length parts); count = count } ∷ []
shapes_added parts widths counts layout end width count true e are whole =
    let part : Part = record { layout = layout; end = end } in
    let one : Counted = record { object = length parts; count = count } in
    let front = begins 0 parts (length parts) in
    let at : 0 + length parts ≡ length parts = omega arith in
    let found = find_last (λ (c : Counted). eqb c.object (length parts)) counts one (eq-eqb (length parts) (length parts) refl)
    (λ k d l. ne_eqb (get_or counts k d).object (length parts) (λ q. let less = are.known k d l in let no : ⊥ = omega arith in no)) in
    let new : shape_from (counts ++ one ∷ []) (0 + length parts) front part width ≡ record { layout = layout; first = front; cells = end - front; count = count } =
    ap (λ (o : ℕ). shape_from (counts ++ one ∷ []) o front part width) at
    ∙ ap (λ (c : Bool). (let s : Shape = record { layout = layout; first = front; cells = end - front; count = cond c (counted (counts ++ one ∷ []) (length parts)) ((end - front) / width) } in s)) e
    ∙ ap (λ (o : Option Counted). (let s : Shape = record { layout = layout; first = front; cells = end - front; count = option_map_or (λ (c : Counted). c.count) o 0 } in s)) found in
    ap (λ (c : Bool). shapes_of (parts ++ part ∷ []) (widths ++ width ∷ []) (cond c (counts ++ one ∷ []) counts)) e
    ∙ shapes_push (counts ++ one ∷ []) 0 0 parts widths part width are.same
    ∙ ap (λ (s : Shape). shapes_of parts widths (counts ++ one ∷ []) ++ s ∷ []) new
    ∙ ap (λ (l : List Shape). l ++ (let s : Shape = record { layout = layout; first = front; cells = end - front; count = count } in s) ∷ []) (shapes_kept counts one 0 0 parts widths (omega arith))
shapes_added parts widths counts layout end width count false e are whole =
    let part : Part = record { layout = layout; end = end } in
    let one : Counted = record { object = length parts; count = count } in
    let front = begins 0 parts (length parts) in
    let at : 0 + length parts ≡ length parts = omega arith in
    let ne = zero_width width e in
    let new : shape_from counts (0 + length parts) front part width ≡ record { layout = layout; first = front; cells = end - front; count = count } =
    ap (λ (o : ℕ). shape_from counts o front part width) at
    ∙ ap (λ (c : Bool). (let s : Shape = record { layout = layout; first = front; cells = end - front; count = cond c (counted counts (length parts)) ((end - front) / width) } in s)) e
    ∙ ap (λ (n : ℕ). (let s : Shape = record { layout = layout; first = front; cells = end - front; count = n } in s)) (whole_count (end - front) count width (whole ne) ne) in
    ap (λ (c : Bool). shapes_of (parts ++ part ∷ []) (widths ++ width ∷ []) (cond c (counts ++ one ∷ []) counts)) e
    ∙ shapes_push counts 0 0 parts widths part width are.same
    ∙ ap (λ (s : Shape). shapes_of parts widths counts ++ s ∷ []) new

kept_counts : (counts : List Counted) (n count width : ℕ) (b : Bool) → eqb width 0 ≡ b → All (λ one. one.object < n) counts → AreRising counts
    → All (λ one. one.object < n + 1) (with_count counts n count width) × AreRising (with_count counts n count width)
kept_counts counts n count width true e known rising =
    let one : Counted = record { object = n; count = count } in
    let size = length_push counts one in
    rw e (
      (λ k d l. elim (cases_lt k (length counts)) [
        | inl a ↦ rw (get_or_append_left counts (one ∷ []) d k a) (let h = known k d a in omega arith)
        | inr b ↦ rw (get_or_push counts one d k (let q : length counts ≡ k = omega arith in q)) (omega arith)
      ]),
      (λ i j d less l. elim (cases_lt j (length counts)) [
        | inl a ↦ (let b : i < length counts = omega arith in rw (get_or_append_left counts (one ∷ []) d i b, get_or_append_left counts (one ∷ []) d j a) (rising i j d less a))
        | inr b ↦ (let a : i < length counts = omega arith in let h = known i d a in
            rw (get_or_append_left counts (one ∷ []) d i a, get_or_push counts one d j (let q : length counts ≡ j = omega arith in q)) h)
      ]),
    )
kept_counts counts n count width false e known rising = rw e ((λ k d l. let h = known k d l in omega arith), rising)

pub kept_added : (parts : List Part) (widths : List ℕ) (counts : List Counted) (part : Part) (width count : ℕ) → AreKept parts widths counts
    → AreKept (parts ++ part ∷ []) (widths ++ width ∷ []) (with_count counts (length parts) count width)
kept_added parts widths counts part width count are =
    let n = length_push parts part in
    let m = length_push widths width in
    let c = kept_counts counts (length parts) count width (eqb width 0) refl are.known are.rising in
    record {
      same = omega (arith, are.same);
      known = λ k d l. let h = c.0 k d l in omega arith;
      rising = c.1;
    }

-- ---- one object

pub begins_at : (parts : List Part) (object : ℕ) → 0 < object → begins 0 parts object ≡ (get_or parts (object - 1) nothing_kept).end
begins_at parts zero l = absurd (omega arith)
begins_at parts (suc object) l = let e : object ≡ suc object - 1 = omega arith in ap (λ (k : ℕ). (get_or parts k nothing_kept).end) e

pub place_kept : (parts : List Part) (widths : List ℕ) (counts : List Counted) (object cell : ℕ) → AreKept parts widths counts → AreOrdered (shapes_of parts widths counts)
    → place_in (shapes_of parts widths counts) object cell ≡ place_by parts object cell
place_kept parts widths counts object cell are ordered =
    let shapes = shapes_of parts widths counts in
    let size = shapes_of-length parts widths counts are in
    let d : Shape = record { layout = 0; first = 0; cells = 0; count = 0 } in
    elim (cases_lt object (length parts)) [
      | inl l ↦ (
          let here = shape_is_at parts widths counts object d are l in
          let front = sym (ordered.firsts object d (omega arith)) ∙ ap (λ (s : Shape). s.first) here in
          rw (lt-ltb object (length parts) l)
          (place_is shapes object cell d (omega arith)
          ∙ ap (λ (n : ℕ). cond (ltb cell n) (Some (before shapes object + cell)) None) (ap (λ (s : Shape). s.cells) here)
          ∙ ap (λ (n : ℕ). cond (ltb cell ((get_or parts object nothing_kept).end - begins 0 parts object)) (Some (n + cell)) None) front))
      | inr past ↦ rw (le-ltb object (length parts) past) (place_past shapes object cell (omega arith))
    ]

pub shape_found : (parts : List Part) (widths : List ℕ) (counts : List Counted) (object : ℕ) → AreKept parts widths counts → object < length parts
    → option_map stored_shape (slice_get (shapes_of parts widths counts) object)
    ≡ Some (record { 0 = (get_or parts object nothing_kept).layout; 1 = count_of counts object ((get_or parts object nothing_kept).end - begins 0 parts object) (get_or widths object 0) })
shape_found parts widths counts object are l =
    let size = shapes_of-length parts widths counts are in
    let d : Shape = record { layout = 0; first = 0; cells = 0; count = 0 } in
    ap (option_map stored_shape) (slice_get-get_or (shapes_of parts widths counts) object d (omega arith)) ∙ ap (λ (s : Shape). Some (stored_shape s)) (shape_is_at parts widths counts object d are l)

pub shape_past : (parts : List Part) (widths : List ℕ) (counts : List Counted) (object : ℕ) → AreKept parts widths counts → length parts ≤ object
    → option_map stored_shape (slice_get (shapes_of parts widths counts) object) ≡ None
shape_past parts widths counts object are l =
    let size = shapes_of-length parts widths counts are in
    ap (option_map stored_shape) (slice_get_past (shapes_of parts widths counts) object (omega arith))

pub begins_pushed : (parts : List Part) (part : Part) (n : ℕ) → n ≡ length parts + 1 → begins 0 (parts ++ part ∷ []) n ≡ part.end
begins_pushed parts part n e =
    let back : n - 1 ≡ length parts = omega arith in
    begins_at (parts ++ part ∷ []) n (omega arith) ∙ ap (λ (k : ℕ). (get_or (parts ++ part ∷ []) k nothing_kept).end) back ∙ ap (λ (p : Part). p.end) (get_or_push parts part nothing_kept (length parts) refl)

width_cases : (fields : ℕ) (b : Bool) → leb fields 255 ≡ b → (cond b fields 0 ≡ 0 → ⊥) → cond b fields 0 ≡ fields
width_cases fields true e ne = refl
width_cases fields false e ne = absurd (ne refl)

pub width_is : (fields : ℕ) → (width_of fields ≡ 0 → ⊥) → width_of fields ≡ fields
width_is fields ne = width_cases fields (leb fields 255) refl ne

-- the shapes with that of a further object of so many fields
pub shapes_with : (parts : List Part) (widths : List ℕ) (counts : List Counted) (layout fields count used : ℕ) → AreKept parts widths counts → begins 0 parts (length parts) ≡ used
    → shapes_of (parts ++ record { layout = layout; end = used + count * fields } ∷ []) (widths ++ width_of fields ∷ []) (with_count counts (length parts) count (width_of fields))
    ≡ shapes_of parts widths counts ++ record { layout = layout; first = used; cells = count * fields; count = count } ∷ []
shapes_with parts widths counts layout fields count used are filled =
    let end = used + count * fields in
    let cells : end - begins 0 parts (length parts) ≡ count * fields = omega arith in
    shapes_added parts widths counts layout end (width_of fields) count (eqb (width_of fields) 0) refl are (λ ne. cells ∙ ap (λ (w : ℕ). count * w) (sym (width_is fields ne)))
    ∙ ap (λ (n : ℕ). shapes_of parts widths counts ++ (let s : Shape = record { layout = layout; first = n; cells = end - n; count = count } in s) ∷ []) filled
    ∙ ap (λ (n : ℕ). shapes_of parts widths counts ++ (let s : Shape = record { layout = layout; first = used; cells = n; count = count } in s) ∷ []) (let same : end - used ≡ count * fields = omega arith in same)

-- ---- the count of one object, found by halves

pub rising_by : (counts : List Counted) → AreRising counts → IsNonDecreasingBy (λ one. one.object) counts
rising_by counts rising i j d le l = elim (cases_lt i j) [ inl a ↦ (let h = rising i j d a l in omega arith) | inr b ↦ (let e : i ≡ j = omega arith in rw e (omega arith)) ]

once : (counts : List Counted) (object : ℕ) → AreRising counts → AtMostOne (λ one. eqb one.object object) counts
once counts object rising i j d li lj ne one other =
    let a = eqb-true (get_or counts i d).object object one in
    let b = eqb-true (get_or counts j d).object object other in
    elim (cases_lt i j) [
      | inl h ↦ (let less = rising i j d h lj in let no : ⊥ = omega arith in no)
      | inr h ↦ (let less = rising j i d (let s : j < i = grind arith in s) li in let no : ⊥ = omega arith in no)
    ]

pub counted_at : (counts : List Counted) (object place : ℕ) (d : Counted) → AreRising counts → place < length counts → (get_or counts place d).object ≡ object → (get_or counts place d).count ≡ counted counts object
counted_at counts object place d rising l e =
    sym (ap (λ (o : Option Counted). option_map_or (λ (c : Counted). c.count) o 0) (find_at_index (λ (c : Counted). eqb c.object object) counts place d l (eq-eqb (get_or counts place d).object object e) (once counts object rising)))

pub counted_none : (counts : List Counted) (object place : ℕ) → AreRising counts → ((k : ℕ) (d : Counted) → k < place → (get_or counts k d).object < object)
    → ((k : ℕ) (d : Counted) → place ≤ k → k < length counts → object ≤ (get_or counts k d).object) → ((d : Counted) → place < length counts → (get_or counts place d).object ≡ object → ⊥)
    → 0 ≡ counted counts object
counted_none counts object place rising low high here =
    sym (ap (λ (o : Option Counted). option_map_or (λ (c : Counted). c.count) o 0) (find_nothing (λ (c : Counted). eqb c.object object) counts
    (λ k d l. ne_eqb (get_or counts k d).object object (λ e.
    elim (cases_lt k place) [
      | inl a ↦ (let less = low k d a in let no : ⊥ = omega arith in no)
      | inr b ↦ (elim (cases_eq k place) [
        | inl same ↦ here d (omega arith) (ap (λ (n : ℕ). (get_or counts n d).object) (sym same) ∙ e)
        | inr ne ↦ (let less = rising place k d (let s : place < k = grind arith in s) l in let first = high place d (omega arith) (omega arith) in let no : ⊥ = omega arith in no)
      ])
    ]))))

-- at most one count more
kept-length : (counts : List Counted) (object count : ℕ) (b : Bool) → length (cond b (counts ++ record { object = object; count = count } ∷ []) counts) ≤ length counts + 1
kept-length counts object count true = let e = length_push counts (let one : Counted = record { object = object; count = count } in one) in omega arith
kept-length counts object count false = omega arith

pub with_count-length : (counts : List Counted) (object count width : ℕ) → length (with_count counts object count width) ≤ length counts + 1
with_count-length counts object count width = kept-length counts object count (eqb width 0)
