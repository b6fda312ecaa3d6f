-- A new object: it holds zeros and null pointers, and what others hold is untouched.
use Rattle.std.proofs.Common.{◌≡◌, ℕ, zero, suc, ◌+◌, ◌*◌, ◌<◌, ◌≤◌, ◌%◌, ◌^◌, false, List, [], ◌∷◌, ◌++◌, length, get_or, map, replicate, refl, sym, ap, ◌∙◌, subst, arith, ltb, Option, Some, inl, inr}
use Rattle.std.specs.Prelude.{slice_get}
use Rattle.std.specs.List.{sum_by, flat_map}
use Rattle.std.specs.Option.{option_map_or}
use Rattle.std.proofs.lemmas.Bool.{cases_lt, ltb-false}
use Rattle.std.proofs.lemmas.Option.{slice_get_within}
use Rattle.std.proofs.lemmas.List.{length_push, length-map, length-replicate}
use Rattle.ir_ast.specs.declared.cells.Cell.{Cell}
use Rattle.ir_ast.specs.declared.cells.Cell.TheVariants.{I64, Ptr}
use Rattle.ir_ast.specs.Layouts.{ObjectLayout}
use Rattle.ir_ast.specs.Sizes.{fields_in}
use Rattle.ir_ast.specs.Objects.{Pointer, Datum, Object, blank, footprint}
use Rattle.moving_heap.specs.declared.stands.Stand.{Stand}
use Rattle.moving_heap.specs.Contents.{Content, repeated}
use Rattle.moving_heap.specs.Heaps.{HeapView, of_number, with_object}
use Rattle.moving_heap.specs.Heaps.{footprint as bytes_for}
use Rattle.moving_heap.specs.Places.{new_stand}
use Rattle.moving_heap.specs.Settled.{AreSettled}
use Rattle.moving_heap.proofs.PlaceLemmas.{settled_added}
use Rattle.moving_heap.proofs.SizeLemmas.{footprint_bytes}
use Rattle.moving_heap.proofs.CellLemmas.{repeated-length}
use Rattle.object_meaning.specs.Calls.{made}
use Rattle.object_meaning.specs.Registers.{nothing, pointer_in}
use Rattle.machine_meaning.specs.Relations.{addr, IsInHeap}
use Rattle.moves_unseen.specs.Objects.{AreHeld, Holds, IsHeld}
use Rattle.list_laws.proofs.Places.{get_last}

-- ---- a list with one more element

get_before : {X : Type 0} (xs : List X) (x : X) (at : ℕ) → at < length xs → slice_get (xs ++ x ∷ []) at ≡ slice_get xs at
get_before [] x at within = absurd (omega arith)
get_before (first ∷ xs) x zero within = refl
get_before (first ∷ xs) x (suc at) within = get_before xs x at (omega arith)

the_same : {X : Type 0} (one other : X) (found : Option X) → found ≡ Some one → found ≡ Some other → one ≡ other
the_same one other found first second = cc

last_one : {X : Type 0} (xs : List X) (x found : X) (at : ℕ) → at ≡ length xs → slice_get (xs ++ x ∷ []) at ≡ Some found → found ≡ x
last_one xs x found at end is = the_same found x (slice_get (xs ++ x ∷ []) (length xs)) (ap (slice_get (xs ++ x ∷ [])) (sym end) ∙ is) (get_last xs x)

-- ---- pointers of the others

address_before : (stands : List Stand) (new : Stand) (object : ℕ) → object ≤ length stands → of_number (stands ++ new ∷ []) object ≡ of_number stands object
address_before stands new zero within = refl
address_before stands new (suc place) within = get_before stands new place (omega arith)

pub addr_before : (stands : List Stand) (new : Stand) (to : Pointer) → to.object ≤ length stands → addr (stands ++ new ∷ []) to ≡ addr stands to
addr_before stands new to within =
    ap (λ (o : Option Stand). (option_map_or (λ (stand : Stand). stand.address) o 0 + to.offset) % 2 ^ 64) (address_before stands new to.object within)

pub in_heap_before : (stands : List Stand) (new : Stand) (to : Pointer) → IsInHeap stands to → IsInHeap (stands ++ new ∷ []) to
in_heap_before stands new to is = let more = length_push stands new in record { object = let low = is.object in omega arith; offset = is.offset }

holds_before : (stands : List Stand) (new : Stand) (kind : Cell) (datum : Datum) (held : ℕ) → Holds stands kind datum held → Holds (stands ++ new ∷ []) kind datum held
holds_before stands new I64 datum held is = is
holds_before stands new Ptr datum held base = record {
  heap = in_heap_before stands new (pointer_in datum) base.heap;
  first = base.first;
  word = base.word ∙ sym (addr_before stands new (pointer_in datum) base.heap.object);
}

held_before : (layouts : List ObjectLayout) (stands : List Stand) (new : Stand) (object : Object) (content : Content) → IsHeld layouts stands object content
    → IsHeld layouts (stands ++ new ∷ []) object content
held_before layouts stands new object content is = record {
  layout = is.layout;
  count = is.count;
  kinds = is.kinds;
  cells_count = is.cells_count;
  words_count = is.words_count;
  cells = λ cell kind at. holds_before stands new kind (get_or object.cells cell nothing) (get_or content.words cell 0) (is.cells cell kind at);
}

-- ---- the new one

mapped_more : (one rest : List Cell) → map blank (one ++ rest) ≡ map blank one ++ map blank rest
mapped_more [] rest = refl
mapped_more (first ∷ one) rest = ap (λ (more : List Datum). blank first ∷ more) (mapped_more one rest)

cells_are : (fields : List Cell) (count : ℕ) → flat_map (map blank) (replicate count fields) ≡ map blank (repeated fields count)
cells_are fields zero = refl
cells_are fields (suc count) = ap (λ (more : List Datum). map blank fields ++ more) (cells_are fields count) ∙ sym (mapped_more fields (repeated fields count))

blank_at : (kinds : List Cell) (cell : ℕ) (kind : Cell) → slice_get kinds cell ≡ Some kind → get_or (map blank kinds) cell nothing ≡ blank kind
blank_at [] cell kind is = cc
blank_at (first ∷ kinds) zero kind is = let same : first ≡ kind = cc in ap blank same
blank_at (first ∷ kinds) (suc cell) kind is = blank_at kinds cell kind is

zero_at : (count cell : ℕ) → ◌≡◌ {A = ℕ} (get_or (replicate count 0) cell 0) 0
zero_at zero cell = refl
zero_at (suc count) zero = refl
zero_at (suc count) (suc cell) = zero_at count cell

blank_holds : (stands : List Stand) (kind : Cell) → Holds stands kind (blank kind) 0
blank_holds stands I64 = refl
blank_holds stands Ptr = record { heap = record { object = omega arith; offset = omega arith }; first = refl; word = refl }

abbrev content_made : List ObjectLayout → ℕ → ℕ → Content
content_made layouts layout count = record {
  layout = layout;
  count = count;
  kinds = repeated (fields_in layouts layout) count;
  words = replicate (count * length (fields_in layouts layout)) 0;
}

made_held : (layouts : List ObjectLayout) (stands : List Stand) (layout count : ℕ) → IsHeld layouts stands (made layouts layout count) (content_made layouts layout count)
made_held layouts stands layout count =
    let fields = fields_in layouts layout in
    let cells = cells_are (fields_in layouts layout) count in
    record {
      layout = refl;
      count = refl;
      kinds = refl;
      cells_count = ap length cells ∙ length-map (repeated (fields_in layouts layout) count) blank;
      words_count = length-replicate (count * length (fields_in layouts layout)) 0 ∙ sym (repeated-length (fields_in layouts layout) count);
      cells = λ cell kind is.
          subst (λ (d : Datum). Holds stands kind d (get_or (replicate (count * length (fields_in layouts layout)) 0) cell 0))
          (sym (ap (λ (all : List Datum). get_or all cell nothing) cells ∙ blank_at (repeated (fields_in layouts layout) count) cell kind is))
          (subst (Holds stands kind (blank kind)) (sym (zero_at (count * length (fields_in layouts layout)) cell)) (blank_holds stands kind));
    }

-- ---- all objects

module _ (layouts : List ObjectLayout) (objects : List Object) (heap : HeapView) (are : AreHeld layouts objects heap.stands heap.contents) (layout count : ℕ)
    (room : ltb 67108864 (sum_by (λ (stand : Stand). stand.size) heap.stands + bytes_for (fields_in layouts layout) count) ≡ false) where
  abbrev new : Stand
  new = new_stand heap.stands (bytes_for (fields_in layouts layout) count)

  settled_more : AreSettled (heap.stands ++ new ∷ [])
  settled_more =
      let bytes = footprint_bytes (fields_in layouts layout) count in
      settled_added heap.stands (bytes_for (fields_in layouts layout) count) are.settled (omega arith) (omega arith)
      (ltb-false 67108864 (sum_by (λ (stand : Stand). stand.size) heap.stands + bytes_for (fields_in layouts layout) count) room)

  pub made_is_held : AreHeld layouts (objects ++ made layouts layout count ∷ []) (with_object heap layout (fields_in layouts layout) count).stands
      (with_object heap layout (fields_in layouts layout) count).contents
  made_is_held =
      let one = made layouts layout count in
      let more_objects = length_push objects (made layouts layout count) in
      let more_stands = length_push heap.stands new in
      let more_contents = length_push heap.contents (content_made layouts layout count) in
      record {
        settled = settled_more;
        stands_count = let same = are.stands_count in omega arith;
        contents_count = let same = are.contents_count in omega arith;
        sizes = λ place object stand here stood.
            elim (cases_lt place (length objects)) [
              | inl low ↦ are.sizes place object stand (sym (get_before objects one place low) ∙ here)
                  (sym (get_before heap.stands new place (subst (λ (n : ℕ). place < n) (sym are.stands_count) low)) ∙ stood)
              | inr high ↦ (
                  let within = slice_get_within (objects ++ made layouts layout count ∷ []) place object here in
                  let end : place ≡ length objects = omega arith in
                  let object_is = last_one objects (made layouts layout count) object place end here in
                  let stand_is = last_one heap.stands new stand place (end ∙ sym are.stands_count) stood in
                  ap (λ (s : Stand). s.size) stand_is ∙ sym (ap (footprint layouts) object_is))
            ];
        each = λ place object content here there.
            elim (cases_lt place (length objects)) [
              | inl low ↦ held_before layouts heap.stands new object content (are.each place object content (sym (get_before objects one place low) ∙ here)
                  (sym (get_before heap.contents (content_made layouts layout count) place (subst (λ (n : ℕ). place < n) (sym are.contents_count) low)) ∙ there))
              | inr high ↦ (
                  let within = slice_get_within (objects ++ made layouts layout count ∷ []) place object here in
                  let end : place ≡ length objects = omega arith in
                  let object_is = last_one objects (made layouts layout count) object place end here in
                  let content_is = last_one heap.contents (content_made layouts layout count) content place (end ∙ sym are.contents_count) there in
                  subst (λ (o : Object). IsHeld layouts (heap.stands ++ new ∷ []) o content) (sym object_is)
                  (subst (IsHeld layouts (heap.stands ++ new ∷ []) (made layouts layout count)) (sym content_is)
                  (made_held layouts (heap.stands ++ new ∷ []) layout count)))
            ];
      }
