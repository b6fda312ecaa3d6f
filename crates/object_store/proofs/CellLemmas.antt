-- Cells in one list, and the objects that they are of.
use Rattle.std.proofs.Common.{◌≡◌, ◌≢◌, ℕ, zero, suc, ◌+◌, ◌*◌, ◌<◌, ◌≤◌, ◌^◌, Bool, true, false, inl, inr, List, [], ◌∷◌, ◌++◌, length, max, replicate, take, drop, map, get_or, set, refl, sym, ap, ◌∙◌, arith, cond, ltb, Option, Some, None}
use Rattle.std.specs.Prelude.{slice_get, ◌-◌, if◌then◌else◌, ◌==◌, Result, Err}
use Rattle.std.specs.List.{flat_map}
use Rattle.std.specs.Option.{option_map, option_map_or}
use Rattle.std.proofs.lemmas.Bool.{lt-ltb, le-ltb, cases_lt}
use Rattle.std.proofs.lemmas.Bool.Decides.{eqb_tells}
use Rattle.std.proofs.lemmas.List.{take-set-le, drop-set-lt, drop-set-add, map-append, map-set, get_or_past, get_or-drop, get_or-take, take-map, drop-map, map_push, length-take, length-drop, length-map, set_past, take-append-le, drop-append-le, get_or_append_left, get_or_push, length_push, length-append, take_all, append_assoc, append-nil}
use Rattle.std.proofs.lemmas.List.Sums.{sum_by-cons, sum_by_push}
use Rattle.std.proofs.Math.Seq.{take-suc, take-set-lt}
use Rattle.sp_ids.specs.declared.ends.Trap.{Trap}
use Rattle.ir_ast.specs.declared.cells.Cell.{Cell}
use Rattle.ir_ast.specs.declared.cells.Cell.TheVariants.{I64, Ptr}
use Rattle.ir_ast.proofs.SizeLaws.{footprint_is}
use Rattle.ir_ast.specs.Layouts.{ObjectLayout}
use Rattle.ir_ast.specs.Sizes.{fields_in}
use Rattle.ir_ast.specs.Objects.{Datum, Object, Pointer, footprint, blank}
use Rattle.cell_rows.specs.declared.shapes.Shape.{Shape}
use Rattle.cell_rows.specs.Rows.{AreLaid, AreOrdered, place_in, sizes}
use Rattle.cell_rows.proofs.RowLemmas.{laid_push}
use Rattle.object_store.specs.declared.words.Word.{Word}
use Rattle.object_meaning.specs.Calls.{made}
use Rattle.object_meaning.specs.Registers.{nothing, pointer_in}
use Rattle.object_store.specs.Words.{datum}
use Rattle.sp_ids.specs.declared.ends.Trap.TheVariants.{Null}
use Rattle.object_meaning.specs.Accesses.{Place, accessed, within}
use Rattle.object_store.specs.Stored.{is_full, HasCells, AreStored, bytes_taken, held, written, reached, object_at, objects_of, blank_word, blank_words}
use Rattle.list_laws.proofs.Numbers.{less}

-- a further object
pub blank_more : (fields : List Cell) (count : ℕ) → blank_words fields (count + 1) ≡ blank_words fields count ++ map blank_word fields
blank_more fields zero = append-nil (map blank_word fields)
blank_more fields (suc count) =
    let e : suc count + 1 ≡ suc (count + 1) = omega arith in
    rw e (ap (λ rest. map blank_word fields ++ rest) (blank_more fields count) ∙ sym (append_assoc (map blank_word fields) (blank_words fields count) (map blank_word fields)))

pub blank_length : (fields : List Cell) (count : ℕ) → length (blank_words fields count) ≡ count * length fields
blank_length fields zero = let e : 0 ≡ 0 * length fields = omega arith in e
blank_length fields (suc count) =
    let h = blank_length fields count in let s = length-append (map blank_word fields) (blank_words fields count) in
    let m = length-map fields blank_word in
    let e : suc count * length fields ≡ length fields + count * length fields = grind arith in omega arith

-- what the objects say by layout and count stands in the shapes
pub get_objects : {X : Type 0} (F : ℕ → ℕ → X) (d : X) (shapes : List Shape) (words : List Word) (k : ℕ)
    → option_map_or (λ (object : Object). F object.layout object.count) (slice_get (objects_of shapes words) k) d
    ≡ option_map_or (λ (shape : Shape). F shape.layout shape.count) (slice_get shapes k) d
get_objects F d [] words k = refl
get_objects F d (shape ∷ shapes) words zero = refl
get_objects F d (shape ∷ shapes) words (suc k) = get_objects F d shapes (drop shape.cells words) k

pub accessed_is : (layouts : List ObjectLayout) (shapes : List Shape) (words : List Word) (asked : Cell) (at : Pointer)
    → accessed layouts (objects_of shapes words) asked at ≡ reached layouts shapes asked at
accessed_is layouts shapes words asked at =
    ap (λ (r : Result Place Trap). if at.object == 0 then Err Null else r)
    (get_objects (λ layout count. within at (fields_in layouts layout) asked count) (Err Null) shapes words (at.object - 1))

-- one more element of a list that goes through a function
pub map_more : {X Y : Type 0} (f : X → Y) (xs : List X) (i : ℕ) (d : X) → i < length xs → map f (take (i + 1) xs) ≡ map f (take i xs) ++ f (get_or xs i d) ∷ []
map_more f xs i d l =
    let e : i + 1 ≡ suc i = omega arith in rw e (ap (map f) (take-suc xs i d l) ∙ map_push f (take i xs) (get_or xs i d))

pub mapped_length : {X Y : Type 0} (f : X → Y) (xs : List X) (i : ℕ) → length (map f (take i xs)) ≤ i
mapped_length f xs i = let m = length-map (take i xs) f in let t = length-take i xs in omega arith

there : {X : Type 0} (F : Shape → X) (d : X) (shapes : List Shape) (k : ℕ) (e : Shape) → k < length shapes → option_map_or F (slice_get shapes k) d ≡ F (get_or shapes k e)
there F d [] k e l = absurd (omega arith)
there F d (shape ∷ shapes) zero e l = refl
there F d (shape ∷ shapes) (suc k) e l = there F d shapes k e (less k (length shapes) l)

absent : {X : Type 0} (F : Shape → X) (d : X) (shapes : List Shape) (k : ℕ) → length shapes ≤ k → option_map_or F (slice_get shapes k) d ≡ d
absent F d [] k l = refl
absent F d (shape ∷ shapes) zero l = absurd (omega arith)
absent F d (shape ∷ shapes) (suc k) l = absent F d shapes k (let h : length shapes ≤ k = omega arith in h)

-- a pointer to an object reaches into it, and one to none traps
pub some_object : (layouts : List ObjectLayout) (shapes : List Shape) (asked : Cell) (at : Pointer) (d : Shape) → at.object ≢ 0 → at.object - 1 < length shapes
    → reached layouts shapes asked at ≡ within at (fields_in layouts (get_or shapes (at.object - 1) d).layout) asked (get_or shapes (at.object - 1) d).count
some_object layouts shapes asked at d some l =
    elim (eqb_tells at.object 0) [
      | inl is ↦ absurd (some is.1)
      | inr is ↦ rw is.0 (there (λ (shape : Shape). within at (fields_in layouts shape.layout) asked shape.count) (Err Null) shapes (at.object - 1) d l)
    ]

pub no_object : (layouts : List ObjectLayout) (shapes : List Shape) (asked : Cell) (at : Pointer) → length shapes ≤ at.object - 1 → reached layouts shapes asked at ≡ Err Null
no_object layouts shapes asked at l =
    elim (eqb_tells at.object 0) [
      | inl is ↦ rw is.0 refl
      | inr is ↦ rw is.0 (absent (λ (shape : Shape). within at (fields_in layouts shape.layout) asked shape.count) (Err Null) shapes (at.object - 1) l)
    ]

along : (cells : List Datum) (n : ℕ) (place : Option ℕ) → held (drop n cells) place ≡ held cells (option_map (λ p. n + p) place)
along cells n None = refl
along cells n (Some place) = get_or-drop n cells place nothing

pub loaded_is : (shapes : List Shape) (words : List Word) (k cell : ℕ)
    → option_map_or (λ (object : Object). get_or object.cells cell nothing) (slice_get (objects_of shapes words) k) nothing
    ≡ held (map datum words) (place_in shapes k cell)
loaded_is [] words k cell = refl
loaded_is (shape ∷ shapes) words zero cell =
    elim (cases_lt cell shape.cells) [
      | inl a ↦ rw (lt-ltb cell shape.cells a) (ap (λ (ws : List Datum). get_or ws cell nothing) (sym (take-map datum shape.cells words)) ∙ get_or-take shape.cells (map datum words) cell nothing a)
      | inr b ↦ rw (le-ltb cell shape.cells b)
          (get_or_past (map datum (take shape.cells words)) cell nothing (let m = length-map (take shape.cells words) datum in let t = length-take shape.cells words in omega arith))
    ]
loaded_is (shape ∷ shapes) words (suc k) cell =
    loaded_is shapes (drop shape.cells words) k cell
    ∙ ap (λ (ds : List Datum). held ds (place_in shapes k cell)) (sym (drop-map datum shape.cells words))
    ∙ along (map datum words) shape.cells (place_in shapes k cell)

-- a pointer by its parts
pub at_is : (word : Word) (object offset : ℕ) → object ≡ (pointer_in (datum word)).object → offset ≡ (pointer_in (datum word)).offset
    → ◌≡◌ {A = Pointer} (record { object = object; offset = offset }) (pointer_in (datum word))
at_is word object offset o f = rw (o, f) refl

-- the objects with this cell of one of them written
abbrev pub with_cell : List Object → ℕ → ℕ → Datum → List Object
with_cell [] k cell to = []
with_cell (object ∷ objects) zero cell to = record object { cells = set object.cells cell to } ∷ objects
with_cell (object ∷ objects) (suc k) cell to = object ∷ with_cell objects k cell to

more_set : (object : Object) (objects : List Object) (k cell : ℕ) (to : Datum) (found : Option Object)
    → option_map_or (λ (o : Object). set (object ∷ objects) (suc k) (record o { cells = set o.cells cell to })) found (object ∷ objects)
    ≡ object ∷ option_map_or (λ (o : Object). set objects k (record o { cells = set o.cells cell to })) found objects
more_set object objects k cell to None = refl
more_set object objects k cell to (Some o) = refl

pub with_cell_is : (objects : List Object) (k cell : ℕ) (to : Datum)
    → option_map_or (λ (o : Object). set objects k (record o { cells = set o.cells cell to })) (slice_get objects k) objects ≡ with_cell objects k cell to
with_cell_is [] k cell to = refl
with_cell_is (object ∷ objects) zero cell to = refl
with_cell_is (object ∷ objects) (suc k) cell to = more_set object objects k cell to (slice_get objects k) ∙ ap (λ rest. object ∷ rest) (with_cell_is objects k cell to)

write_rest : (shape : Shape) (shapes : List Shape) (words : List Word) (place : Option ℕ) (word : Word)
    → objects_of (shape ∷ shapes) (written words (option_map (λ p. shape.cells + p) place) word)
    ≡ object_at shape words ∷ objects_of shapes (written (drop shape.cells words) place word)
write_rest shape shapes words None word = refl
write_rest shape shapes words (Some place) word = rw (take-set-le shape.cells words (shape.cells + place) word (omega arith), drop-set-add shape.cells words place word) refl

pub write_is : (shapes : List Shape) (words : List Word) (k cell : ℕ) (word : Word)
    → objects_of shapes (written words (place_in shapes k cell) word) ≡ with_cell (objects_of shapes words) k cell (datum word)
write_is [] words k cell word = refl
write_is (shape ∷ shapes) words zero cell word =
    elim (cases_lt cell shape.cells) [
      | inl a ↦ rw (lt-ltb cell shape.cells a, take-set-lt shape.cells words cell word a, drop-set-lt shape.cells words cell word a, map-set datum (take shape.cells words) cell word) refl
      | inr b ↦ rw (
        le-ltb cell shape.cells b,
        set_past (map datum (take shape.cells words)) cell (datum word)
            (let m = length-map (take shape.cells words) datum in let t = length-take shape.cells words in omega arith),
      ) refl
    ]
write_is (shape ∷ shapes) words (suc k) cell word =
    write_rest shape shapes words (place_in shapes k cell) word ∙ ap (λ rest. object_at shape words ∷ rest) (write_is shapes (drop shape.cells words) k cell word)

-- the bytes that objects take don't depend on what they hold
pub bytes_same : (layouts : List ObjectLayout) (shapes : List Shape) (one other : List Word)
    → bytes_taken layouts (objects_of shapes one) ≡ bytes_taken layouts (objects_of shapes other)
bytes_same layouts [] one other = refl
bytes_same layouts (shape ∷ shapes) one other =
    sum_by-cons (footprint layouts) (object_at shape one) (objects_of shapes (drop shape.cells one))
    ∙ ap (λ n. footprint layouts (object_at shape one) + n) (bytes_same layouts shapes (drop shape.cells one) (drop shape.cells other))
    ∙ sym (sum_by-cons (footprint layouts) (object_at shape other) (objects_of shapes (drop shape.cells other)))

-- a further object
objects_push : (shapes : List Shape) (shape : Shape) (words more : List Word) → sizes shapes ≡ length words
    → objects_of (shapes ++ shape ∷ []) (words ++ more) ≡ objects_of shapes words ++ object_at shape more ∷ []
objects_push [] shape [] more sum = refl
objects_push [] shape (w ∷ words) more sum = absurd (omega arith)
objects_push (one ∷ shapes) shape words more sum =
    let whole = sum_by-cons (λ (x : Shape). x.cells) one shapes in
    let fits : one.cells ≤ length words = omega arith in let dropped = length-drop one.cells words in
    rw (take-append-le one.cells words more fits, drop-append-le one.cells words more fits)
    (ap (λ rest. object_at one words ∷ rest) (objects_push shapes shape (drop one.cells words) more (omega arith)))

blank_is : (cell : Cell) → datum (blank_word cell) ≡ blank cell
blank_is I64 = refl
blank_is Ptr = refl

blanks_are : (fields : List Cell) → map datum (map blank_word fields) ≡ map blank fields
blanks_are [] = refl
blanks_are (cell ∷ fields) = rw (blank_is cell, blanks_are fields) refl

blank_data : (fields : List Cell) (count : ℕ) → map datum (blank_words fields count) ≡ flat_map (map blank) (replicate count fields)
blank_data fields zero = refl
blank_data fields (suc count) = map-append datum (map blank_word fields) (blank_words fields count) ∙ rw (blanks_are fields, blank_data fields count) refl

blank_object : (layouts : List ObjectLayout) (shape : Shape) → shape.cells ≡ shape.count * length (fields_in layouts shape.layout)
    → object_at shape (blank_words (fields_in layouts shape.layout) shape.count) ≡ made layouts shape.layout shape.count
blank_object layouts shape are =
    let fields = fields_in layouts shape.layout in let many = blank_length fields shape.count in
    ap (λ (ws : List Word). let o : Object = record { layout = shape.layout; count = shape.count; cells = map datum ws } in o)
    (take_all shape.cells (blank_words fields shape.count) (omega arith))
    ∙ ap (λ (ds : List Datum). let o : Object = record { layout = shape.layout; count = shape.count; cells = ds } in o) (blank_data fields shape.count)

pub object_added : (layouts : List ObjectLayout) (shapes : List Shape) (shape : Shape) (words : List Word) → sizes shapes ≡ length words
    → shape.cells ≡ shape.count * length (fields_in layouts shape.layout)
    → objects_of (shapes ++ shape ∷ []) (words ++ blank_words (fields_in layouts shape.layout) shape.count)
    ≡ objects_of shapes words ++ made layouts shape.layout shape.count ∷ []
object_added layouts shapes shape words sum are =
    objects_push shapes shape words (blank_words (fields_in layouts shape.layout) shape.count) sum
    ∙ ap (λ (o : Object). objects_of shapes words ++ o ∷ []) (blank_object layouts shape are)

-- the bytes with a further object
pub bytes_added : (layouts : List ObjectLayout) (objects : List Object) (layout count : ℕ)
    → bytes_taken layouts (objects ++ made layouts layout count ∷ []) ≡ bytes_taken layouts objects + max 8 (8 * (count * length (fields_in layouts layout)))
bytes_added layouts objects layout count =
    sum_by_push (footprint layouts) objects (made layouts layout count)
    ∙ ap (λ (n : ℕ). bytes_taken layouts objects + n) (footprint_is layouts (made layouts layout count))

each_push : (layouts : List ObjectLayout) (shapes : List Shape) (shape : Shape) → ((k : ℕ) (d : Shape) → k < length shapes → HasCells layouts (get_or shapes k d))
    → HasCells layouts shape → (k : ℕ) (d : Shape) → k < length (shapes ++ shape ∷ []) → HasCells layouts (get_or (shapes ++ shape ∷ []) k d)
each_push layouts shapes shape each has k d l =
    let count = length_push shapes shape in
    elim (cases_lt k (length shapes)) [
      | inl a ↦ rw (get_or_append_left shapes (shape ∷ []) d k a) (each k d a)
      | inr b ↦ (let e : length shapes ≡ k = omega arith in rw (get_or_push shapes shape d k e) has)
    ]

pub laid_added : (layouts : List ObjectLayout) (shapes : List Shape) (words : List Word) (used : ℕ) (shape : Shape) → AreStored layouts shapes words used
    → HasCells layouts shape → shape.first ≡ length words → used + max 8 (8 * shape.cells) ≤ 67108864
    → AreStored layouts (shapes ++ shape ∷ []) (words ++ blank_words (fields_in layouts shape.layout) shape.count) (used + max 8 (8 * shape.cells))
laid_added layouts shapes words used shape are has first fits =
    let sum = sum_by_push (λ (x : Shape). x.cells) shapes shape in let count = length_push shapes shape in
    let many = length-append words (blank_words (fields_in layouts shape.layout) shape.count) in
    let blanks = blank_length (fields_in layouts shape.layout) shape.count in
    record {
      laid = laid_push shapes (length words) shape (length (words ++ blank_words (fields_in layouts shape.layout) shape.count)) are.laid first
          (omega (arith, has.are)) (omega (arith, are.laid.whole, are.cells_fit, has.are));
      each = each_push layouts shapes shape are.each has;
      cells_fit = omega (arith, are.cells_fit);
      count_fits = omega (arith, are.count_fits);
      used_is =
          ap (λ (n : ℕ). n + max 8 (8 * shape.cells)) are.used_is
          ∙ ap (λ (n : ℕ). bytes_taken layouts (objects_of shapes words) + max 8 (8 * n)) has.are
          ∙ sym (bytes_added layouts (objects_of shapes words) shape.layout shape.count)
          ∙ ap (bytes_taken layouts) (sym (object_added layouts shapes shape words are.laid.whole has.are));
      fits = fits;
    }

pub full_is : (layouts : List ObjectLayout) (objects : List Object) (layout count used : ℕ) (fields : List Cell) → used ≡ bytes_taken layouts objects
    → fields ≡ fields_in layouts layout → 67108864 < used + max 8 (8 * (count * length fields)) → is_full layouts (objects ++ made layouts layout count ∷ []) ≡ true
full_is layouts objects layout count used fields used_is fields_are more =
    rw (bytes_added layouts objects layout count, ← used_is, ← fields_are) (lt-ltb 67108864 (used + max 8 (8 * (count * length fields))) more)

pub not_full_is : (layouts : List ObjectLayout) (objects : List Object) (layout count used cells : ℕ) (fields : List Cell) → used ≡ bytes_taken layouts objects
    → fields ≡ fields_in layouts layout → cells ≡ count * length fields → used + max 8 (8 * cells) ≤ 67108864
    → is_full layouts (objects ++ made layouts layout count ∷ []) ≡ false
not_full_is layouts objects layout count used cells fields used_is fields_are cells_are fits =
    rw (bytes_added layouts objects layout count, ← used_is, ← fields_are, ← cells_are) (le-ltb 67108864 (used + max 8 (8 * cells)) fits)

pub count_is : (shapes : List Shape) (words : List Word) → length (objects_of shapes words) ≡ length shapes
count_is [] words = refl
count_is (shape ∷ shapes) words = ap suc (count_is shapes (drop shape.cells words))
