-- The cell that a pointer names, in the target meaning and in the heap: checks and loads.
use Rattle.std.proofs.Common.{◌≡◌, ℕ, zero, suc, ◌+◌, ◌-◌, ◌*◌, ◌<◌, ◌≤◌, ◌%◌, ◌/◌, Bool, true, false, not, ◌||◌, List, length, get_or, refl, sym, ap, ◌∙◌, subst, arith, cond, eqb, ltb, Option, Some, None, ◌⊎◌, inl, inr, max}
use Rattle.std.specs.Prelude.{slice_get, Ok, Err, []}
use Rattle.std.specs.Option.{option_map_or}
use Rattle.std.proofs.lemmas.Bool.{eqb-true, ne_eqb, ltb-false, eq-eqb}
use Rattle.std.proofs.lemmas.Option.{slice_get-get_or, slice_get_within}
use Rattle.std.proofs.Math.Nat.{le-max_right}
use Rattle.sp_ids.specs.declared.ends.Trap.TheVariants.{Null, Bounds, Kind}
use Rattle.ir_ast.specs.declared.cells.Cell.{Cell}
use Rattle.ir_ast.specs.declared.cells.Cell.TheVariants.{I64, Ptr}
use Rattle.ir_ast.specs.Cells.{kind_of}
use Rattle.ir_ast.specs.Layouts.{ObjectLayout}
use Rattle.ir_ast.specs.Sizes.{fields_in}
use Rattle.ir_ast.specs.Objects.{Pointer, Object}
use Rattle.ir_ast.proofs.SizeLaws.{footprint_is}
use Rattle.moving_heap.specs.declared.stands.Stand.{Stand}
use Rattle.moving_heap.specs.Contents.{Content}
use Rattle.object_meaning.specs.Accesses.{Place, accessed, within}
use Rattle.object_meaning.proofs.AccessLaws.{within_is}
use Rattle.machine_meaning.proofs.CheckLaws.{repeated-get}
use Rattle.moves_unseen.specs.Objects.{AreHeld}
use Rattle.moves_unseen.proofs.AddressedLaws.{blank}
use Rattle.machine_meaning.proofs.AddressLaws.{none_or}

abbrev pub no_object : Object
no_object = record { layout = 0; count = 0; cells = [] }

abbrev pub no_content : Content
no_content = record { layout = 0; count = 0; kinds = []; words = [] }

-- ---- the access of the target meaning

pub access_of_none : (layouts : List ObjectLayout) (objects : List Object) (asked : Cell) (to : Pointer) → to.object ≡ 0 → accessed layouts objects asked to ≡ Err Null
access_of_none layouts objects asked to none = rw (eq-eqb to.object 0 none) refl

pub access_of_object : (layouts : List ObjectLayout) (objects : List Object) (asked : Cell) (to : Pointer) (place : ℕ) (found : Option Object) → to.object ≡ suc place → slice_get objects place ≡ found
    → accessed layouts objects asked to ≡ option_map_or (λ object. within to (fields_in layouts object.layout) asked object.count) found (Err Null)
access_of_object layouts objects asked to place found is here =
    let back : to.object - 1 ≡ place = omega arith in
    rw (ne_eqb to.object 0 (λ none. omega arith), back, here) refl

same_kind : (one other : Cell) → eqb (kind_of one) (kind_of other) ≡ true → one ≡ other
same_kind I64 I64 is = refl
same_kind Ptr Ptr is = refl
same_kind I64 Ptr is = cc
same_kind Ptr I64 is = cc

record Allowed (past whole same : Bool) (made place : Place) : Type 0 where
  pub inside : past ≡ false
  pub even : whole ≡ true
  pub kind : same ≡ true
  pub is : made ≡ place

allowed : (past whole same : Bool) (made place : Place) → cond (past || not whole) (Err Bounds) (cond same (Ok made) (Err Kind)) ≡ Ok place → Allowed past whole same made place
allowed false true true made place is = record { inside = refl; even = refl; kind = refl; is = cc }
allowed false true false made place is = cc
allowed false false same made place is = cc
allowed true whole same made place is = cc

-- where an access is one of a cell
pub record IsFound (objects : List Object) (stands : List Stand) (contents : List Content) (asked : Cell) (to : Pointer) (place : Place) : Type 0 where
  pub at : ℕ
  pub object : Object
  pub content : Content
  pub number : to.object ≡ suc at
  pub here : slice_get objects at ≡ Some object
  pub there : slice_get contents at ≡ Some content
  pub standing : at < length stands
  pub is : place ≡ record { object = to.object; offset = to.offset; cell = to.offset / 8 }
  pub whole : to.offset % 8 ≡ 0
  pub kind : slice_get content.kinds (to.offset / 8) ≡ Some asked
  pub inside : to.offset < (get_or stands at blank).size

module _ (layouts : List ObjectLayout) (objects : List Object) (stands : List Stand) (contents : List Content) (are : AreHeld layouts objects stands contents) where
  found_in : (asked : Cell) (to : Pointer) (place : Place) (at : ℕ) (object : Object) → to.object ≡ suc at → slice_get objects at ≡ Some object
      → within to (fields_in layouts object.layout) asked object.count ≡ Ok place → IsFound objects stands contents asked to place
  found_in asked to place at object number here is =
      let fields = fields_in layouts object.layout in
      let so = allowed (ltb (object.count * (8 * length fields)) (to.offset + 8)) (eqb (to.offset % 8) 0) (eqb (kind_of (get_or fields (to.offset / 8 % length fields) I64)) (kind_of asked))
      (record { object = to.object; offset = to.offset; cell = to.offset / 8 }) place (sym (within_is to fields asked object.count) ∙ is) in
      let low : at < length objects = slice_get_within objects at object here in
      let stood : at < length stands = subst (λ (n : ℕ). at < n) (sym are.stands_count) low in
      let listed : at < length contents = subst (λ (n : ℕ). at < n) (sym are.contents_count) low in
      let content = get_or contents at no_content in
      let there : slice_get contents at ≡ Some content = slice_get-get_or contents at no_content listed in
      let held = are.each at object content here there in
      let whole : to.offset % 8 ≡ 0 = eqb-true (to.offset % 8) 0 so.even in
      let room : to.offset + 8 ≤ object.count * (8 * length fields) = ltb-false (object.count * (8 * length fields)) (to.offset + 8) so.inside in
      let cells : object.count * (8 * length fields) ≡ 8 * (object.count * length fields) = omega arith in
      let cell : to.offset / 8 < object.count * length fields = omega arith in
      let kind = repeated-get fields object.count (to.offset / 8) cell in
      let size : (get_or stands at blank).size ≡ max 8 (8 * (object.count * length fields)) = are.sizes at object (get_or stands at blank) here (slice_get-get_or stands at blank stood) ∙ footprint_is layouts object in
      let most = le-max_right 8 (8 * (object.count * length fields)) in
      record {
        at = at;
        object = object;
        content = content;
        number = number;
        here = here;
        there = there;
        standing = stood;
        is = sym so.is;
        whole = whole;
        kind = ap (λ (kinds : List Cell). slice_get kinds (to.offset / 8)) held.kinds
            ∙ (kind ∙ ap (λ (c : Cell). Some c) (same_kind (get_or fields (to.offset / 8 % length fields) I64) asked so.kind));
        inside = omega arith;
      }

  found_by : (asked : Cell) (to : Pointer) (place : Place) (at : ℕ) (found : Option Object) → to.object ≡ suc at → slice_get objects at ≡ found
      → option_map_or (λ object. within to (fields_in layouts object.layout) asked object.count) found (Err Null) ≡ Ok place → IsFound objects stands contents asked to place
  found_by asked to place at None number here is = cc
  found_by asked to place at (Some object) number here is = found_in asked to place at object number here is

  pub access_found : (asked : Cell) (to : Pointer) (place : Place) → accessed layouts objects asked to ≡ Ok place → IsFound objects stands contents asked to place
  access_found asked to place is =
      elim (none_or to.object) [
        | inl none ↦ (let never : Err Null ≡ Ok place = sym (access_of_none layouts objects asked to none) ∙ is in cc)
        | inr some ↦ found_by asked to place some.0 (slice_get objects some.0) some.1 refl
            (sym (access_of_object layouts objects asked to some.0 (slice_get objects some.0) some.1 refl) ∙ is)
      ]
