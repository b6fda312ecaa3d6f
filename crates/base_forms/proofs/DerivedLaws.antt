-- The table of marks has the derived values, and no other table has.
use Rattle.std.proofs.Common.{◌≡◌, ◌∙◌, ℕ, zero, suc, Bool, true, false, ◌&&◌, ◌||◌, List, [], ◌∷◌, map, Some, slice_get, refl, ap, sym, inl, inr}
use Rattle.std.specs.List.{list_any, Contains}
use Rattle.std.proofs.lemmas.Bool.{cases_Bool, false≢true}
use Rattle.list_laws.proofs.Places.{get_map}
use Rattle.list_laws.proofs.Contents.{contains_none, contains_first, contains_later, contains_cons}
use Rattle.ir_ast.specs.Funcs.{Function}
use Rattle.ir_ast.specs.Values.{Definition, argument, outcome, definitions_of}
use Rattle.ir_ast.specs.Operands.{values_used}
use Rattle.ir_ast.specs.Derived.{is_step, is_merge, Derived, by_step, by_merge}
use Rattle.base_forms.specs.DerivedMarks.{has_mark, uses_marked, derives, marks_after, derived_marks, MarksDerived}
use Rattle.base_forms.proofs.MarkLaws.{derived_again, length-derived_marks, derived_within}
use Rattle.list_laws.proofs.Tests.{same_marks}
use Rattle.ir_ast.proofs.OpLaws.{mark_got, got_mark}

-- a marked value among some
pub record Found (marks : List Bool) (values : List ℕ) : Type 0 where
  pub value : ℕ
  pub inside : Contains values value
  pub marked : has_mark marks value ≡ true

pub any_found : (marks : List Bool) (values : List ℕ) → list_any (has_mark marks) values ≡ true → Found marks values
any_found marks [] is = absurd (false≢true is)
any_found marks (value ∷ values) is = elim (cases_Bool (has_mark marks value)) [
  | inl marked ↦ record { value = value; inside = contains_first value values; marked = marked }
  | inr plain ↦
      let rest = any_found marks values (rw plain at is) in
      record { value = rest.value; inside = contains_later value rest.value values rest.inside; marked = rest.marked }
]

pub found_any : (marks : List Bool) (values : List ℕ) (value : ℕ) → Contains values value → has_mark marks value ≡ true
    → list_any (has_mark marks) values ≡ true
found_any marks [] value inside marked = absurd (contains_none value inside)
found_any marks (one ∷ values) value inside marked = elim (contains_cons one value values inside) [
  | inl same ↦ rw (same, marked) refl
  | inr later ↦ or_right (has_mark marks one) (found_any marks values value later marked)
]
  where
    or_right : (b : Bool) {c : Bool} → c ≡ true → (b || c) ≡ true
    or_right true is = refl
    or_right false is = is

-- the definition at a place of a list gives what its mark says
record GivesMark (marks : List Bool) (given : List Definition) (value : ℕ) : Type 0 where
  pub one : Definition
  pub stands : slice_get given value ≡ Some one
  pub derives_it : derives marks one ≡ true

gives_mark : (marks : List Bool) (given : List Definition) (value : ℕ) → has_mark (map (derives marks) given) value ≡ true
    → GivesMark marks given value
gives_mark marks [] value is = absurd (false≢true is)
gives_mark marks (one ∷ given) zero is = record { one = one; stands = refl; derives_it = is }
gives_mark marks (one ∷ given) (suc value) is =
    let rest = gives_mark marks given value is in
    record { one = rest.one; stands = rest.stands; derives_it = rest.derives_it }

derived_by : (func : Function) (marks : List Bool) (value : ℕ) (given : Definition) → slice_get (definitions_of func) value ≡ Some given
    → derives marks given ≡ true → ((operand : ℕ) → has_mark marks operand ≡ true → Derived func operand) → Derived func value
derived_by func marks value (argument arg) stands is earlier = absurd (false≢true is)
derived_by func marks value (outcome inst) stands is earlier = by (is_step inst.op) (is_merge inst.op) refl refl is
  where
    by : (step merge : Bool) → is_step inst.op ≡ step → is_merge inst.op ≡ merge → (step || (merge && uses_marked marks inst)) ≡ true
        → Derived func value
    by true merge steps merges is = by_step value inst stands steps
    by false true steps merges is =
        let found = any_found marks (values_used inst) is in
        by_merge value found.value inst stands merges found.inside (earlier found.value found.marked)
    by false false steps merges is = absurd (false≢true is)

pub marked_derived : (func : Function) (value : ℕ) → has_mark (derived_marks func) value ≡ true → Derived func value
marked_derived func = derived_within func (Derived func) (λ rounds earlier value is.
    let given = gives_mark (marks_after func rounds) (definitions_of func) value is in
    derived_by func (marks_after func rounds) value given.one given.stands given.derives_it earlier)

-- a definition that derives has its mark
marked_at : (func : Function) (value : ℕ) (given : Definition) → slice_get (definitions_of func) value ≡ Some given
    → derives (derived_marks func) given ≡ true → has_mark (derived_marks func) value ≡ true
marked_at func value given stands is =
    let at : slice_get (map (derives (derived_marks func)) (definitions_of func)) value ≡ Some (derives (derived_marks func) given)
    = get_map (derives (derived_marks func)) (definitions_of func) value given stands in
    got_mark (derived_marks func) value (rw (derived_again func) at at ∙ ap (λ (m : Bool). Some m) is)

pub derived_marked : (func : Function) (value : ℕ) → Derived func value → has_mark (derived_marks func) value ≡ true
derived_marked func _ (by_step value inst given step) = marked_at func value (outcome inst) given (rw step refl)
derived_marked func _ (by_merge value operand inst given merge used derived) =
    let any = found_any (derived_marks func) (values_used inst) operand used (derived_marked func operand derived) in
    marked_at func value (outcome inst) given (by (is_step inst.op) (is_merge inst.op) merge any)
  where
    by : (step merges : Bool) {u : Bool} → merges ≡ true → u ≡ true → (step || (merges && u)) ≡ true
    by true merges is any = refl
    by false merges is any = rw is any

-- the marked values are the derived ones
pub marks_derived : (func : Function) → MarksDerived func (derived_marks func)
marks_derived func = record {
  whole = length-derived_marks func;
  sound = λ value is. marked_derived func value (got_mark (derived_marks func) value is);
  complete = λ value derived. mark_got (derived_marks func) value (derived_marked func value derived);
}

-- ---- one table

-- there is one table of marks
pub only_marks : (func : Function) (marks : List Bool) → MarksDerived func marks → marks ≡ derived_marks func
only_marks func marks derived =
    let own = marks_derived func in
    same_marks marks (derived_marks func) (derived.whole ∙ sym own.whole) (λ value is. own.complete value (derived.sound value is))
    (λ value is. derived.complete value (own.sound value is))
