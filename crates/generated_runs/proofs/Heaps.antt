-- The objects of a run of a generated module: all of the module's only layout, none with more than two elements.
use Rattle.std.proofs.Common.{◌≡◌, ◌≢◌, ◌∙◌, ℕ, zero, suc, ◌+◌, ◌-◌, ◌*◌, ◌≤◌, false, ◌==◌, List, [], ◌∷◌, ◌++◌, length, Option, Some, None, refl, sym, ap, subst, inl, inr, arith}
use Rattle.std.specs.Prelude.{nat_lt, slice_get, slice_set, sum_by, Ok}
use Rattle.std.specs.Option.{option_map_or}
use Rattle.std.specs.List.{All}
use Rattle.std.proofs.lemmas.Bool.{cases_eq, le-ltb, ne_eqb}
use Rattle.std.proofs.lemmas.List.{length-append}
use Rattle.std.proofs.Math.ListN.{length-set}
use Rattle.std.proofs.lemmas.List.Elements.{All-cons, All-head, All-tail, All-append, All-from_recursion}
use Rattle.std.proofs.lemmas.List.Sums.{sum_by-append, sum_by-cons}
use Rattle.list_laws.proofs.Contents.{all_at}
use Rattle.list_laws.proofs.Places.{get_front, get_middle, get_written}
use Rattle.ir_ast.specs.declared.cells.Cell.TheVariants.{I64, Ptr as Managed}
use Rattle.ir_ast.specs.Sizes.{laid, size_of}
use Rattle.ir_ast.specs.Objects.{Datum, Object, footprint}
use Rattle.object_meaning.specs.Accesses.{Place, accessed, stored, field_at, within}
use Rattle.object_meaning.specs.Calls.{made}
use Rattle.generated_runs.proofs.Steps.{layouts_of}

pub record IsNode (object : Object) : Type 0 where
  pub layout : object.layout ≡ 0
  pub some : 1 ≤ object.count
  pub few : object.count ≤ 2

footprint_at : (count : ℕ) (cells : List Datum) → 1 ≤ count → count ≤ 2 → footprint layouts_of (record { layout = 0; count = count; cells = cells }) ≤ 32
unfolding laid size_of
footprint_at zero cells some few = absurd (omega arith)
footprint_at (suc zero) cells some few = omega arith
footprint_at (suc (suc zero)) cells some few = omega arith
footprint_at (suc (suc (suc count))) cells some few = absurd (omega arith)

footprint_low : (object : Object) → IsNode object → footprint layouts_of object ≤ 32
footprint_low object node =
    subst (λ (layout : ℕ). footprint layouts_of (record { layout = layout; count = object.count; cells = object.cells }) ≤ 32) (sym node.layout)
    (footprint_at object.count object.cells node.some node.few)

sum_low : (objects : List Object) → All IsNode objects → sum_by (footprint layouts_of) objects ≤ 32 * length objects
sum_low [] nodes = omega arith
sum_low (object ∷ objects) nodes =
    omega (arith, sum_by-cons (footprint layouts_of) object objects, footprint_low object (All-head IsNode object objects nodes), sum_low objects (All-tail IsNode object objects nodes))

-- the object is there, with so many elements
pub record Holds (objects : List Object) (number count : ℕ) : Type 0 where
  pub object : Object
  pub later : 1 ≤ number
  pub there : slice_get objects (number - 1) ≡ Some object
  pub layout : object.layout ≡ 0
  pub count_is : object.count ≡ count

-- the objects of a run, of which the first is the one that `@main` makes
pub record Heap (objects : List Object) (most : ℕ) : Type 0 where
  pub nodes : All IsNode objects
  pub few : length objects ≤ most
  pub first : Holds objects 1 1

-- ---- a new object

pub room : (objects : List Object) (most : ℕ) (object : Object) → Heap objects most → IsNode object → most ≤ 2000000
    → nat_lt 67108864 (sum_by (footprint layouts_of) (objects ++ object ∷ [])) ≡ false
room objects most object heap node few =
    let rest = sum_low objects heap.nodes in
    let last = footprint_low object node in
    let count = heap.few in
    le-ltb 67108864 (sum_by (footprint layouts_of) (objects ++ object ∷ [])) (omega (arith, sum_by-append (footprint layouts_of) objects (object ∷ []), rest, last, count))

pub one_node : IsNode (made layouts_of 0 1)
one_node = record { layout = refl; some = omega arith; few = omega arith }

pub two_node : IsNode (made layouts_of 0 2)
two_node = record { layout = refl; some = omega arith; few = omega arith }

pub holds_more : (objects more : List Object) (number count : ℕ) → Holds objects number count → Holds (objects ++ more) number count
holds_more objects more number count holds = record {
  object = holds.object;
  later = holds.later;
  there = get_front objects more (number - 1) holds.object holds.there;
  layout = holds.layout;
  count_is = holds.count_is;
}

pub holds_new : (objects : List Object) (object : Object) → IsNode object → Holds (objects ++ object ∷ []) (length objects + 1) object.count
holds_new objects object node = record {
  object = object;
  later = omega arith;
  there = subst (λ (n : ℕ). slice_get (objects ++ object ∷ []) n ≡ Some object) (omega arith) (get_middle objects object []);
  layout = node.layout;
  count_is = refl;
}

pub heap_more : (objects : List Object) (most : ℕ) (object : Object) → Heap objects most → IsNode object → Heap (objects ++ object ∷ []) (most + 1)
heap_more objects most object heap node = record {
  nodes = All-append IsNode objects (object ∷ []) heap.nodes (All-from_recursion IsNode (object ∷ []) (node, tt));
  few = (let count = heap.few in omega (arith, count, length-append objects (object ∷ [])));
  first = holds_more objects (object ∷ []) 1 1 heap.first;
}

-- ---- a store

set_all : {A : Type 0} (P : A → Type 0) (xs : List A) (k : ℕ) (x : A) → All P xs → P x → All P (slice_set xs k x)
set_all P [] k x all holds = all
set_all P (y ∷ ys) zero x all holds = All-cons P x ys holds (All-tail P y ys all)
set_all P (y ∷ ys) (suc k) x all holds = All-cons P y (slice_set ys k x) (All-head P y ys all) (set_all P ys k x (All-tail P y ys all) holds)

get_other : {A : Type 0} (xs : List A) (j k : ℕ) (x : A) → j ≢ k → slice_get (slice_set xs j x) k ≡ slice_get xs k
get_other [] j k x other = refl
get_other (y ∷ ys) zero zero x other = absurd (other refl)
get_other (y ∷ ys) zero (suc k) x other = refl
get_other (y ∷ ys) (suc j) zero x other = refl
get_other (y ∷ ys) (suc j) (suc k) x other = get_other ys j k x (λ same. other (ap suc same))

stored_nodes : (objects : List Object) (k : ℕ) (found : Option Object) (cells : Object → List Datum) → slice_get objects k ≡ found → All IsNode objects
    → All IsNode (option_map_or (λ object. slice_set objects k (record object { cells = cells object })) found objects)
stored_nodes objects k None cells at nodes = nodes
stored_nodes objects k (Some object) cells at nodes =
    let node = all_at IsNode objects k object nodes at in
    set_all IsNode objects k (record object { cells = cells object }) nodes (record { layout = node.layout; some = node.some; few = node.few })

stored_length : (objects : List Object) (k : ℕ) (found : Option Object) (cells : Object → List Datum)
    → length (option_map_or (λ object. slice_set objects k (record object { cells = cells object })) found objects) ≡ length objects
stored_length objects k None cells = refl
stored_length objects k (Some object) cells = length-set objects k (record object { cells = cells object })

stored_holds : (objects : List Object) (k : ℕ) (found : Option Object) (cells : Object → List Datum) (number count : ℕ) → slice_get objects k ≡ found → Holds objects number count
    → Holds (option_map_or (λ object. slice_set objects k (record object { cells = cells object })) found objects) number count
stored_holds objects k None cells number count at holds = holds
stored_holds objects k (Some object) cells number count at holds = elim (cases_eq k (number - 1)) [
  | inl same ↦
      let equal : Some object ≡ Some holds.object = sym at ∙ ap (slice_get objects) same ∙ holds.there in
      let object_is : object ≡ holds.object = cc in
      record {
        object = record object { cells = cells object };
        later = holds.later;
        there = subst (λ (n : ℕ). slice_get (slice_set objects k (record object { cells = cells object })) n ≡ Some (record object { cells = cells object })) same
            (get_written objects k object (record object { cells = cells object }) at);
        layout = ap (λ (o : Object). o.layout) object_is ∙ holds.layout;
        count_is = ap (λ (o : Object). o.count) object_is ∙ holds.count_is;
      }
  | inr other ↦ record {
    object = holds.object;
    later = holds.later;
    there = get_other objects k (number - 1) (record object { cells = cells object }) (λ same. other same) ∙ holds.there;
    layout = holds.layout;
    count_is = holds.count_is;
  }
]

pub heap_stored : (objects : List Object) (most : ℕ) (place : Place) (datum : Datum) → Heap objects most → Heap (stored objects place datum) most
heap_stored objects most place datum heap =
    let cells : Object → List Datum = λ object. slice_set object.cells place.cell datum in
    record {
      nodes = stored_nodes objects (place.object - 1) (slice_get objects (place.object - 1)) cells refl heap.nodes;
      few = (let count = heap.few in omega (arith, count, stored_length objects (place.object - 1) (slice_get objects (place.object - 1)) cells));
      first = stored_holds objects (place.object - 1) (slice_get objects (place.object - 1)) cells 1 1 refl heap.first;
    }

pub holds_stored : (objects : List Object) (place : Place) (datum : Datum) (number count : ℕ) → Holds objects number count → Holds (stored objects place datum) number count
holds_stored objects place datum number count holds =
    stored_holds objects (place.object - 1) (slice_get objects (place.object - 1)) (λ object. slice_set object.cells place.cell datum) number count refl holds

-- ---- the cells that generated functions access

accessed_at : (objects : List Object) (number offset count : ℕ) (place : Place) → Holds objects number count
    → within (record { object = number; offset = offset }) (I64 ∷ Managed ∷ []) I64 count ≡ Ok place
    → accessed layouts_of objects I64 (record { object = number; offset = offset }) ≡ Ok place
accessed_at objects number offset count place holds inside =
    let late = holds.later in
    let some : (number == 0) ≡ false = ne_eqb number 0 (λ e. omega (arith, late, e)) in
    rw (some, holds.there, holds.layout, holds.count_is) inside

-- the integer of an object of one element, and that of the second element of two
abbrev pub front_place : ℕ → Place
front_place number = record { object = number; offset = 0; cell = 0 }

abbrev pub second_place : ℕ → Place
second_place number = record { object = number; offset = 16; cell = 2 }

pub front_accessed : (objects : List Object) (number : ℕ) → Holds objects number 1
    → accessed layouts_of objects I64 (record { object = number; offset = 0 }) ≡ Ok (front_place number)
unfolding laid size_of field_at
front_accessed objects number holds = accessed_at objects number 0 1 (front_place number) holds refl

pub second_accessed : (objects : List Object) (number : ℕ) → Holds objects number 2
    → accessed layouts_of objects I64 (record { object = number; offset = 16 }) ≡ Ok (second_place number)
unfolding laid size_of field_at
second_accessed objects number holds = accessed_at objects number 16 2 (second_place number) holds refl

pub heap_within : (objects : List Object) (most more : ℕ) → Heap objects most → most ≤ more → Heap objects more
heap_within objects most more heap less = record { nodes = heap.nodes; few = (let count = heap.few in omega (arith, count)); first = heap.first }
