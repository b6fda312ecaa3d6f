-- What the machine's checks, loads and stores do where the target meaning's accesses do it.
use Rattle.std.proofs.Common.{◌≡◌, ℕ, suc, ◌+◌, ◌-◌, ◌<◌, ◌%◌, ◌/◌, ◌^◌, Bool, false, not, List, length, get_or, sym, ap, ◌∙◌, subst, arith, cond, eqb, Option, Some, inl, inr}
use Rattle.std.specs.Prelude.{slice_get, Ok, Err}
use Rattle.std.specs.Option.{option_map_or, option_and_then}
use Rattle.std.proofs.lemmas.Bool.{ne_eqb, eq-eqb}
use Rattle.std.proofs.lemmas.Option.{slice_get-get_or, slice_get_within}
use Rattle.ir_ast.specs.declared.cells.Cell.{Cell}
use Rattle.ir_ast.specs.Layouts.{ObjectLayout}
use Rattle.ir_ast.specs.Sizes.{fields_in}
use Rattle.ir_ast.specs.Objects.{Pointer, Datum, Object}
use Rattle.moving_heap.specs.declared.heap.Deny.TheVariants as denies
use Rattle.moving_heap.specs.Contents.{Content, kind_in, repeated, word_in}
use Rattle.moving_heap.specs.Heaps.{HeapView, check_stand, checked, checked_at, kind_asked, load_stand, loaded, word_found}
use Rattle.moving_heap.specs.Places.{owner, stands_at}
use Rattle.object_meaning.specs.Accesses.{Place, accessed, within}
use Rattle.object_meaning.specs.Accesses.{loaded as datum_at}
use Rattle.object_meaning.specs.Registers.{nothing}
use Rattle.machine_meaning.specs.Relations.{addr, check_of, IsPair}
use Rattle.machine_meaning.proofs.AddressLaws.{addr_none, none_or}
use Rattle.machine_meaning.proofs.CheckLaws.{asks_as_access}
use Rattle.moves_unseen.specs.Objects.{AreHeld, Holds, Loads}
use Rattle.moves_unseen.proofs.AddressedLaws.{base_address, blank, distance, numbered, owned_by, stands_here, word_inside}
use Rattle.moves_unseen.proofs.CellLaws.{IsFound, access_found, access_of_none, access_of_object, no_content, no_object}

-- what stands at a place of a list
record Stands {X : Type 0} (xs : List X) (at : ℕ) : Type 0 where
  pub one : X
  pub is : slice_get xs at ≡ Some one

there_is : {X : Type 0} (xs : List X) (at : ℕ) (d : X) → at < length xs → Stands xs at
there_is xs at d within = record { one = get_or xs at d; is = slice_get-get_or xs at d within }

-- ---- checks

module _ (layouts : List ObjectLayout) (objects : List Object) (heap : HeapView) (are : AreHeld layouts objects heap.stands heap.contents)
    (asked : Cell) (to base : Pointer) (word base_word : ℕ) (pair : IsPair heap.stands to base word base_word) where
  check_none : to.object ≡ 0 → checked heap base_word word asked ≡ check_of (accessed layouts objects asked to)
  check_none none =
      let small : base.offset < 2 ^ 64 = omega (arith, pair.first) in
      let zero_word : base_word ≡ 0 = pair.base_is ∙ (addr_none heap.stands base (pair.same ∙ none) small ∙ pair.first) in
      rw (eq-eqb base_word 0 zero_word) (sym (ap check_of (access_of_none layouts objects asked to none)))

  check_some : (at : ℕ) → to.object ≡ suc at → checked heap base_word word asked ≡ check_of (accessed layouts objects asked to)
  check_some at is =
      let standing : at < length heap.stands = omega (arith, pair.heap.object, is) in
      let low : at < length objects = subst (λ (n : ℕ). at < n) are.stands_count standing in
      let listed : at < length heap.contents = subst (λ (n : ℕ). at < n) (sym are.contents_count) low in
      let object = there_is objects at no_object low in
      let content = there_is heap.contents at no_content listed in
      let held = are.each at object.one content.one object.is content.is in
      let stood = are.settled.each at blank standing in
      let base_is = base_address heap.stands are.settled at standing to base word base_word is pair in
      let some : eqb base_word 0 ≡ false = ne_eqb base_word 0 (λ none. let low_end = stood.low in omega arith) in
      let found : stands_at heap.stands base_word ≡ Some (get_or heap.stands at blank) =
      ap (stands_at heap.stands) base_is ∙ stands_here heap.stands are.settled at standing in
      let back : (get_or heap.stands at blank).number - 1 ≡ at = (let numbered_so = numbered heap.stands are.settled at standing in omega arith) in
      let kind : kind_in heap.contents ((get_or heap.stands at blank).number - 1) (to.offset / 8) ≡ slice_get (repeated (fields_in layouts object.one.layout) object.one.count) (to.offset / 8) =
      ap (λ (n : ℕ). kind_in heap.contents n (to.offset / 8)) back
      ∙ (ap (λ (o : Option Content). option_and_then (λ (c : Content). slice_get c.kinds (to.offset / 8)) o) content.is
      ∙ ap (λ (kinds : List Cell). slice_get kinds (to.offset / 8)) held.kinds) in
      ap (λ (b : Bool). cond b (Err denies.Null) (check_stand heap.contents base_word word asked (stands_at heap.stands base_word))) some
      ∙ (ap (check_stand heap.contents base_word word asked) found
      ∙ (ap (λ (offset : ℕ). checked_at heap.contents (get_or heap.stands at blank).number offset asked) (distance heap.stands are.settled at standing to base word base_word is pair)
      ∙ (ap (λ (o : Option Cell). cond (not (eqb (to.offset % 8) 0)) (Err denies.Bounds) (kind_asked o asked)) kind
      ∙ (asks_as_access to (fields_in layouts object.one.layout) object.one.count asked
      ∙ sym (ap check_of (access_of_object layouts objects asked to at (Some object.one) is object.is))))))

  -- a check of a pair answers what an access of its pointer does
  pub check_is_access : checked heap base_word word asked ≡ check_of (accessed layouts objects asked to)
  check_is_access = elim (none_or to.object) [ inl none ↦ check_none none | inr some ↦ check_some some.0 some.1 ]

-- ---- loads

module _ (layouts : List ObjectLayout) (objects : List Object) (heap : HeapView) (are : AreHeld layouts objects heap.stands heap.contents)
    (asked : Cell) (to : Pointer) (word : ℕ) (word_is : word ≡ addr heap.stands to) (place : Place) (is : accessed layouts objects asked to ≡ Ok place) where
  abbrev found : IsFound objects heap.stands heap.contents asked to place
  found = access_found layouts objects heap.stands heap.contents are asked to place is

  pub address_is : word ≡ (get_or heap.stands found.at blank).address + to.offset
  address_is = word_is ∙ word_inside heap.stands are.settled found.at found.standing to found.number found.inside

  pub owned_is : owner heap.stands word ≡ Some (get_or heap.stands found.at blank)
  owned_is = ap (owner heap.stands) address_is ∙ owned_by heap.stands are.settled found.at found.standing to.offset found.inside

  pub distance_is : word - (get_or heap.stands found.at blank).address ≡ to.offset
  distance_is = let address = address_is in omega arith

  pub number_back : (get_or heap.stands found.at blank).number - 1 ≡ found.at
  number_back = let numbered_so = numbered heap.stands are.settled found.at found.standing in omega arith

  pub object_back : place.object - 1 ≡ found.at
  object_back = let same = ap (λ (p : Place). p.object) found.is in let number = found.number in omega arith

  pub cell_back : place.cell ≡ to.offset / 8
  cell_back = ap (λ (p : Place). p.cell) found.is

  pub datum_is : datum_at objects place ≡ get_or found.object.cells (to.offset / 8) nothing
  datum_is =
      ap (λ (n : ℕ). option_map_or (λ (object : Object). get_or object.cells n nothing) (slice_get objects (place.object - 1)) nothing) cell_back
      ∙ (ap (λ (n : ℕ). option_map_or (λ (object : Object). get_or object.cells (to.offset / 8) nothing) (slice_get objects n) nothing) object_back
      ∙ ap (λ (o : Option Object). option_map_or (λ (object : Object). get_or object.cells (to.offset / 8) nothing) o nothing) found.here)

  pub loads_word : loaded heap word ≡ Ok (get_or found.content.words (to.offset / 8) 0)
  loads_word =
      let held = are.each found.at found.object found.content found.here found.there in
      let within : to.offset / 8 < length found.content.words =
      subst (λ (n : ℕ). to.offset / 8 < n) (sym held.words_count) (slice_get_within found.content.kinds (to.offset / 8) asked found.kind) in
      ap (load_stand heap.contents word) owned_is
      ∙ (ap (λ (d : ℕ). cond (not (eqb (d % 8) 0)) (Err denies.Poison) (word_found (word_in heap.contents ((get_or heap.stands found.at blank).number - 1) (d / 8)))) distance_is
      ∙ (ap (λ (n : ℕ). cond (not (eqb (to.offset % 8) 0)) (Err denies.Poison) (word_found (word_in heap.contents n (to.offset / 8)))) number_back
      ∙ (ap (λ (b : Bool). cond (not b) (Err denies.Poison) (word_found (word_in heap.contents found.at (to.offset / 8)))) (eq-eqb (to.offset % 8) 0 found.whole)
      ∙ (ap (λ (o : Option Content). word_found (option_and_then (λ (c : Content). slice_get c.words (to.offset / 8)) o)) found.there
      ∙ ap word_found (slice_get-get_or found.content.words (to.offset / 8) 0 within)))))

  -- a load of a cell: the machine loads what it holds
  pub load_is_access : Loads objects heap asked word place
  load_is_access =
      let held = are.each found.at found.object found.content found.here found.there in
      let same = ap (λ (p : Place). p.object) found.is in
      let number = found.number in
      let numbered_so = numbered heap.stands are.settled found.at found.standing in
      record {
        held = get_or found.content.words (to.offset / 8) 0;
        is = loads_word;
        holds = subst (λ (datum : Datum). Holds heap.stands asked datum (get_or found.content.words (to.offset / 8) 0)) (sym datum_is) (held.cells (to.offset / 8) asked found.kind);
        own = get_or heap.stands found.at blank;
        owned = owned_is;
        object = omega arith;
        offset = distance_is ∙ sym (ap (λ (p : Place). p.offset) found.is);
      }
