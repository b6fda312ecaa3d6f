-- A store: the cell and its word both change, and every cell holds what its kind says.
use Rattle.std.proofs.Common.{◌≡◌, ◌≢◌, ℕ, zero, suc, ◌-◌, ◌<◌, ◌%◌, ◌/◌, Bool, not, List, [], ◌∷◌, length, get_or, set, refl, sym, ap, ◌∙◌, subst, arith, cond, eqb, Option, Some, inl, inr}
use Rattle.std.specs.Prelude.{slice_get, Ok}
use Rattle.std.specs.Option.{option_map_or}
use Rattle.std.proofs.lemmas.Bool.{cases_eq, eq-eqb}
use Rattle.std.proofs.lemmas.Option.{slice_get_within}
use Rattle.std.proofs.lemmas.List.{get_or-set_same, get_or-set_other, length-set}
use Rattle.ir_ast.specs.declared.cells.Cell.{Cell}
use Rattle.ir_ast.specs.Layouts.{ObjectLayout}
use Rattle.ir_ast.specs.Objects.{Pointer, Datum, Object, footprint}
use Rattle.moving_heap.specs.declared.stands.Stand.{Stand}
use Rattle.moving_heap.specs.Contents.{Content, with_word}
use Rattle.moving_heap.specs.Heaps.{HeapView, stored_at}
use Rattle.moving_heap.specs.Places.{owner}
use Rattle.object_meaning.specs.Accesses.{Place, accessed, stored}
use Rattle.object_meaning.specs.Registers.{nothing}
use Rattle.machine_meaning.specs.Relations.{addr}
use Rattle.moves_unseen.specs.Objects.{AreHeld, Holds, IsHeld}
use Rattle.moves_unseen.proofs.AddressedLaws.{blank}
use Rattle.moves_unseen.proofs.CellLaws.{IsFound, access_found}
use Rattle.moves_unseen.proofs.MemoryLaws.{cell_back, distance_is, number_back, object_back, owned_is}
use Rattle.list_laws.proofs.Places.{get_own}

-- ---- lists

get_set_other : {X : Type 0} (xs : List X) (at other : ℕ) (x : X) → other ≢ at → slice_get (set xs at x) other ≡ slice_get xs other
get_set_other [] at other x differ = refl
get_set_other (first ∷ xs) zero zero x differ = absurd (differ refl)
get_set_other (first ∷ xs) zero (suc other) x differ = refl
get_set_other (first ∷ xs) (suc at) zero x differ = refl
get_set_other (first ∷ xs) (suc at) (suc other) x differ = get_set_other xs at other x (λ same. differ (ap suc same))

the_same : {X : Type 0} (one other : X) (found : Option X) → found ≡ Some one → found ≡ Some other → one ≡ other
the_same one other found first second = cc

with_word_is : (contents : List Content) (at cell word : ℕ) (content : Content) → slice_get contents at ≡ Some content
    → with_word contents at cell word ≡ set contents at (record content { words = set content.words cell word })
with_word_is [] at cell word content is = cc
with_word_is (first ∷ contents) zero cell word content is =
    let same : first ≡ content = cc in ap (λ (c : Content). record c { words = set c.words cell word } ∷ contents) same
with_word_is (first ∷ contents) (suc at) cell word content is = ap (λ (rest : List Content). first ∷ rest) (with_word_is contents at cell word content is)

-- ---- one object

object_set : (layouts : List ObjectLayout) (stands : List Stand) (object : Object) (content : Content) (at : ℕ) (asked : Cell) (datum : Datum) (word : ℕ)
    → IsHeld layouts stands object content → slice_get content.kinds at ≡ Some asked → Holds stands asked datum word
    → IsHeld layouts stands (record object { cells = set object.cells at datum }) (record content { words = set content.words at word })
object_set layouts stands object content at asked datum word held kind holds = record {
  layout = held.layout;
  count = held.count;
  kinds = held.kinds;
  cells_count = length-set object.cells at datum ∙ held.cells_count;
  words_count = length-set content.words at word ∙ held.words_count;
  cells = λ cell found is.
      let within = slice_get_within content.kinds at asked kind in
      elim (cases_eq cell at) [
        | inl same ↦ (
            let kind_is : asked ≡ found = the_same asked found (slice_get content.kinds at) kind (ap (slice_get content.kinds) (sym same) ∙ is) in
            let datum_is : get_or (set object.cells at datum) cell nothing ≡ datum =
            ap (λ (k : ℕ). get_or (set object.cells at datum) k nothing) same ∙ get_or-set_same object.cells at datum nothing (subst (λ (n : ℕ). at < n) (sym held.cells_count) within) in
            let word_is : get_or (set content.words at word) cell 0 ≡ word =
            ap (λ (k : ℕ). get_or (set content.words at word) k 0) same ∙ get_or-set_same content.words at word 0 (subst (λ (n : ℕ). at < n) (sym held.words_count) within) in
            subst (λ (k : Cell). Holds stands k (get_or (set object.cells at datum) cell nothing) (get_or (set content.words at word) cell 0)) kind_is
            (subst (λ (d : Datum). Holds stands asked d (get_or (set content.words at word) cell 0)) (sym datum_is)
            (subst (Holds stands asked datum) (sym word_is) holds)))
        | inr other ↦ (
            subst (λ (d : Datum). Holds stands found d (get_or (set content.words at word) cell 0)) (sym (get_or-set_other object.cells at cell datum nothing other))
            (subst (Holds stands found (get_or object.cells cell nothing)) (sym (get_or-set_other content.words at cell word 0 other)) (held.cells cell found is)))
      ];
}

-- ---- all objects

module _ (layouts : List ObjectLayout) (objects : List Object) (stands : List Stand) (contents : List Content) (are : AreHeld layouts objects stands contents)
    (at : ℕ) (object : Object) (content : Content) (here : slice_get objects at ≡ Some object) (there : slice_get contents at ≡ Some content)
    (next : Object) (next_content : Content) (same_layout : next.layout ≡ object.layout) (same_count : next.count ≡ object.count)
    (held : IsHeld layouts stands next next_content) where
  size_kept : footprint layouts next ≡ footprint layouts object
  size_kept = rw (same_layout, same_count) refl

  all_set : AreHeld layouts (set objects at next) stands (set contents at next_content)
  all_set = record {
    settled = are.settled;
    stands_count = are.stands_count ∙ sym (length-set objects at next);
    contents_count = length-set contents at next_content ∙ (are.contents_count ∙ sym (length-set objects at next));
    sizes = λ place one stand is stood.
        elim (cases_eq place at) [
          | inl same ↦ (
              let one_is : one ≡ next = the_same one next (slice_get (set objects at next) at) (ap (slice_get (set objects at next)) (sym same) ∙ is) (get_own objects at next (slice_get_within objects at object here)) in
              are.sizes at object stand here (ap (slice_get stands) (sym same) ∙ stood) ∙ (sym size_kept ∙ ap (footprint layouts) (sym one_is)))
          | inr other ↦ are.sizes place one stand (sym (get_set_other objects at place next other) ∙ is) stood
        ];
    each = λ place one kept is stays.
        elim (cases_eq place at) [
          | inl same ↦ (
              let one_is : one ≡ next = the_same one next (slice_get (set objects at next) at) (ap (slice_get (set objects at next)) (sym same) ∙ is) (get_own objects at next (slice_get_within objects at object here)) in
              let kept_is : kept ≡ next_content = the_same kept next_content (slice_get (set contents at next_content) at) (ap (slice_get (set contents at next_content)) (sym same) ∙ stays) (get_own contents at next_content (slice_get_within contents at content there)) in
              subst (λ (o : Object). IsHeld layouts stands o kept) (sym one_is) (subst (IsHeld layouts stands next) (sym kept_is) held))
          | inr other ↦ are.each place one kept (sym (get_set_other objects at place next other) ∙ is) (sym (get_set_other contents at place next_content other) ∙ stays)
        ];
  }

-- ---- the store

module _ (layouts : List ObjectLayout) (objects : List Object) (heap : HeapView) (are : AreHeld layouts objects heap.stands heap.contents)
    (asked : Cell) (to : Pointer) (word : ℕ) (word_is : word ≡ addr heap.stands to) (place : Place) (is : accessed layouts objects asked to ≡ Ok place) where
  abbrev found : IsFound objects heap.stands heap.contents asked to place
  found = access_found layouts objects heap.stands heap.contents are asked to place is

  stored_is : (datum : Datum) → stored objects place datum ≡ set objects found.at (record found.object { cells = set found.object.cells (to.offset / 8) datum })
  stored_is datum =
      ap (λ (n : ℕ). option_map_or (λ (object : Object). set objects n (record object { cells = set object.cells place.cell datum })) (slice_get objects n) objects)
      (object_back layouts objects heap are asked to word word_is place is)
      ∙ (ap (λ (o : Option Object). option_map_or (λ (object : Object). set objects found.at (record object { cells = set object.cells place.cell datum })) o objects) found.here
      ∙ ap (λ (n : ℕ). set objects found.at (record found.object { cells = set found.object.cells n datum })) (cell_back layouts objects heap are asked to word word_is place is))

  stored_word : (held : ℕ) → stored_at heap.contents word held (owner heap.stands word)
      ≡ set heap.contents found.at (record found.content { words = set found.content.words (to.offset / 8) held })
  stored_word held =
      let own = get_or heap.stands found.at blank in
      ap (stored_at heap.contents word held) (owned_is layouts objects heap are asked to word word_is place is)
      ∙ (ap (λ (d : ℕ). cond (not (eqb (d % 8) 0)) heap.contents (with_word heap.contents ((get_or heap.stands found.at blank).number - 1) (d / 8) held))
      (distance_is layouts objects heap are asked to word word_is place is)
      ∙ (ap (λ (n : ℕ). cond (not (eqb (to.offset % 8) 0)) heap.contents (with_word heap.contents n (to.offset / 8) held))
      (number_back layouts objects heap are asked to word word_is place is)
      ∙ (ap (λ (b : Bool). cond (not b) heap.contents (with_word heap.contents found.at (to.offset / 8) held)) (eq-eqb (to.offset % 8) 0 found.whole)
      ∙ with_word_is heap.contents found.at (to.offset / 8) held found.content found.there)))

  -- a store of what the cell's kind holds
  pub store_is_access : (datum : Datum) (held : ℕ) → Holds heap.stands asked datum held
      → AreHeld layouts (stored objects place datum) heap.stands (stored_at heap.contents word held (owner heap.stands word))
  store_is_access datum held holds =
      subst (λ (next : List Object). AreHeld layouts next heap.stands (stored_at heap.contents word held (owner heap.stands word))) (sym (stored_is datum))
      (subst (AreHeld layouts (set objects found.at (record found.object { cells = set found.object.cells (to.offset / 8) datum })) heap.stands) (sym (stored_word held))
      (all_set layouts objects heap.stands heap.contents are found.at found.object found.content found.here found.there
      (record found.object { cells = set found.object.cells (to.offset / 8) datum })
      (record found.content { words = set found.content.words (to.offset / 8) held }) refl refl
      (object_set layouts heap.stands found.object found.content (to.offset / 8) asked datum held (are.each found.at found.object found.content found.here found.there) found.kind holds)))
