-- A folding with one value more is a folding.
use Rattle.std.proofs.Common.{◌≡◌, ℕ, zero, suc, ◌+◌, ◌<◌, Bool, true, false, not, cond, if◌then◌else◌, List, [], ◌∷◌, ◌++◌, length, map, replicate, refl, sym, ap, subst, ◌∙◌, ◌⊎◌, inl, inr, arith, eqb}
use Rattle.std.specs.Prelude.{Some, None, Ok, filter, nat_lt, slice_get, slice_index_or}
use Rattle.std.specs.List.{All, AllZip, Contains, flat_map, list_all, range_with_len}
use Rattle.std.proofs.lemmas.Bool.{and_parts, cases_Bool, cases_eq, cases_lt, eqb-true, false≢true}
use Rattle.std.proofs.lemmas.List.{get_or-map, get_or_past, length-map}
use Rattle.std.proofs.lemmas.List.FromFn.{get_or-range_with_len, length-range_with_len}
use Rattle.std.proofs.lemmas.Option.{none-some, same_Some, slice_get_within}
use Rattle.list_laws.proofs.Contents.{all_at, all_back, all_from_at}
use Rattle.list_laws.proofs.Places.{get_map, map_back}
use Rattle.ir_ast.specs.declared.funcs.Arg.{Arg}
use Rattle.ir_ast.specs.declared.types.Ty.{Ty}
use Rattle.ir_ast.specs.declared.types.Ty.TheVariants as types
use Rattle.ir_ast.specs.declared.ops.Op.{Op}
use Rattle.ir_ast.specs.declared.ops.Op.TheVariants as ops
use Rattle.ir_ast.specs.declared.ops.Operand.{Operand}
use Rattle.ir_ast.specs.declared.ops.Operand.TheVariants.{Fun, Int, Null, Value}
use Rattle.ir_ast.specs.Derived.{Derived, by_merge, is_merge}
use Rattle.ir_ast.specs.Funcs.{Function, instructions_of}
use Rattle.ir_ast.specs.Insts.{Instruction}
use Rattle.ir_ast.specs.Operands.{is_literal, named, same_operand, values_used}
use Rattle.ir_ast.specs.Values.{Gives, definition_type, definitions_of, outcome, outcome_type, value_types}
use Rattle.ir_ast.specs.Faults.TypeClash.{Fits}
use Rattle.ir_ast.specs.Lines.{IsLine}
use Rattle.ir_ast.specs.Objects.{number}
use Rattle.ir_ast.specs.Modules.{ModuleContent}
use Rattle.ir_ast.specs.Scope.{scope_of}
use Rattle.ir_ast.specs.Widths.{IsWidth, line_widths, type_widths}
use Rattle.ir_ast.specs.Faults.GroupShape.{number_at}
use Rattle.ir_ast.specs.Faults.TypeClash.{IsTyped, asked}
use Rattle.ir_ast.proofs.BaseLemmas.{same_instruction}
use Rattle.ir_ast.proofs.OpLaws.{same_is}
use Rattle.ir_cfg.proofs.KeepsForms.{all_flat}
use Rattle.base_definite.proofs.base_paths.GivesLaws.{given_high}
use Rattle.base_definite.proofs.base_relations.GroupLaws.{given_at}
use Rattle.object_meaning.specs.Computing.{value_of_line}
use Rattle.known_values.specs.Onward.{computes}
use Rattle.folded_forms.specs.Foldable.{only, other_than, substitute}
use Rattle.folded_forms.specs.Folded.{Table, stands_for, stays}
use Rattle.folded_forms.specs.Foldings.{Folds, IsFolding, IsThinning, by_choice, by_entries, by_operator}
use Rattle.folded_forms.specs.Pure.{is_pure}
use Rattle.folded_forms.proofs.TableLaws.{is_same, names_value, operand_used, same_number, stays_is}
use Rattle.folded_source.specs.Steps.{FoldingsGrow, Steps, ThinningsGrow, by_literals, by_substitute, replaced, unchanged}
use Rattle.folded_source.proofs.FunctionLaws.{IsOfSource}
use Rattle.folded_source.proofs.LiteralLaws.{literal_fits}
use Rattle.folded_source.proofs.ModuleLaws.{of_source}

-- ---- operands

abbrev swapped : ℕ → Operand → Operand → Operand
swapped value to each = if same_operand (named value) each then to else each

swapped_same : (value : ℕ) (to each : Operand) → same_operand (named value) each ≡ true → swapped value to each ≡ to
swapped_same value to each same = ap (λ (b : Bool). if b then to else each) same

swapped_other : (value : ℕ) (to each : Operand) → same_operand (named value) each ≡ false → swapped value to each ≡ each
swapped_other value to each other = ap (λ (b : Bool). if b then to else each) other

other_number : (one other : ℕ) → (one ≡ other → ⊥) → same_operand (named one) (named other) ≡ false
other_number one other apart = elim (cases_Bool (eqb one other)) [
  | inl same ↦ absurd (apart (eqb-true one other same))
  | inr is ↦ is
]

-- what stands under the table with one more
replaced_stands : (table : Table) (value : ℕ) (to : Operand) → value < length table → (each : Operand) → stands_for (replaced table value to) each ≡ swapped value to (stands_for table each)
replaced_stands table value to below (Value id) = elim (cases_lt id.0 (length table)) [
  | inl within ↦ get_or-map (swapped value to) table id.0 (Value id) (Value id) within
  | inr past ↦
      let long = length-map table (swapped value to) in
      let apart : same_operand (named value) (Value id) ≡ false = other_number value id.0 (λ same. omega (arith, same, below, past)) in
      get_or_past (replaced table value to) id.0 (Value id) (omega (arith, long, past))
      ∙ (sym (swapped_other value to (Value id) apart) ∙ ap (swapped value to) (sym (get_or_past table id.0 (Value id) past)))
]
replaced_stands table value to below (Int literal) = refl
replaced_stands table value to below Null = refl
replaced_stands table value to below (Fun called) = refl

-- ---- what a select or a phi leaves

record Selects (value : ℕ) (all : List Operand) (to : Operand) : Type 0 where
  pub condition : ℕ
  pub first : Operand
  pub second : Operand
  pub whole : all ≡ Int condition ∷ first ∷ second ∷ []
  pub is : (if nat_lt 0 condition then first else second) ≡ to
  pub other : same_operand (named value) to ≡ false

apart_there : (value : ℕ) (one to : Operand) → (if other_than value one then Some one else None) ≡ Some to → (one ≡ to) × (same_operand (named value) to ≡ false)
apart_there value one to is = by (same_operand (named value) one) refl is
  where
    by : (b : Bool) → same_operand (named value) one ≡ b → (if not b then Some one else None) ≡ Some to → (one ≡ to) × (same_operand (named value) to ≡ false)
    by true same is = absurd (none-some to is)
    by false other is = let same : one ≡ to = same_Some one to is in (same, ap (same_operand (named value)) (sym same) ∙ other)

selects : (value : ℕ) (all : List Operand) (to : Operand) → substitute value all ops.Select ≡ Some to → Selects value all to
selects value [] to is = absurd (none-some to is)
selects value (Int condition ∷ []) to is = absurd (none-some to is)
selects value (Int condition ∷ first ∷ []) to is = absurd (none-some to is)
selects value (Int condition ∷ first ∷ second ∷ more ∷ all) to is = absurd (none-some to is)
selects value (Int condition ∷ first ∷ second ∷ []) to is =
    let apart = apart_there value (if nat_lt 0 condition then first else second) to is in
    record { condition = condition; first = first; second = second; whole = refl; is = apart.0; other = apart.1 }
selects value (Value id ∷ all) to is = absurd (none-some to is)
selects value (Null ∷ all) to is = absurd (none-some to is)
selects value (Fun called ∷ all) to is = absurd (none-some to is)

-- those that pass a test
passing : {A : Type 0} (test : A → Bool) (xs : List A) (place : ℕ) (x : A) → slice_get xs place ≡ Some x → test x ≡ true → (k : ℕ) × (slice_get (filter test xs) k ≡ Some x)
passing test [] place x at passes = absurd (none-some x at)
passing test (y ∷ xs) zero x at passes = (0, ap (λ (b : Bool). slice_get (cond b (y ∷ filter test xs) (filter test xs)) 0) (ap test (same_Some y x at) ∙ passes) ∙ at)
passing test (y ∷ xs) (suc place) x at passes = by (test y) (passing test xs place x at passes)
  where
    by : (b : Bool) → (k : ℕ) × (slice_get (filter test xs) k ≡ Some x) → (k : ℕ) × (slice_get (cond b (y ∷ filter test xs) (filter test xs)) k ≡ Some x)
    by true rest = (suc rest.0, rest.1)
    by false rest = rest

passed : {A : Type 0} (test : A → Bool) (xs : List A) (k : ℕ) (x : A) → slice_get (filter test xs) k ≡ Some x → (place : ℕ) × (slice_get xs place ≡ Some x) × (test x ≡ true)
passed test [] k x at = absurd (none-some x at)
passed test (y ∷ xs) k x at = by (test y) refl k at (λ j there. passed test xs j x there)
  where
    by : (b : Bool) → test y ≡ b → (k : ℕ) → slice_get (cond b (y ∷ filter test xs) (filter test xs)) k ≡ Some x
        → ((j : ℕ) → slice_get (filter test xs) j ≡ Some x → (place : ℕ) × (slice_get xs place ≡ Some x) × (test x ≡ true)) → (place : ℕ) × (slice_get (y ∷ xs) place ≡ Some x) × (test x ≡ true)
    by true is zero at further = (0, at, ap test (sym (same_Some y x at)) ∙ is)
    by true is (suc k) at further = let rest = further k at in (suc rest.0, rest.1, rest.2)
    by false is k at further = let rest = further k at in (suc rest.0, rest.1, rest.2)

-- all of a phi's operands are the phi or this one, which is among them
record Meets (value : ℕ) (all : List Operand) (to : Operand) : Type 0 where
  pub place : ℕ
  pub at : slice_get all place ≡ Some to
  pub other : same_operand (named value) to ≡ false
  pub each : (k : ℕ) (one : Operand) → slice_get all k ≡ Some one → same_operand (named value) one ≡ false → one ≡ to

tests_not : (b : Bool) → b ≡ false → not b ≡ true
tests_not true is = absurd (false≢true (sym is))
tests_not false is = refl

not_tests : (b : Bool) → not b ≡ true → b ≡ false
not_tests true is = absurd (false≢true is)
not_tests false is = refl

all_tests : (test : Operand → Bool) (all : List Operand) → list_all test all ≡ true → (k : ℕ) (one : Operand) → slice_get all k ≡ Some one → test one ≡ true
all_tests test [] are k one at = absurd (none-some one at)
all_tests test (first ∷ all) are zero one at = let parts = and_parts (test first) (list_all test all) are in ap test (sym (same_Some first one at)) ∙ parts.0
all_tests test (first ∷ all) are (suc k) one at = let parts = and_parts (test first) (list_all test all) are in all_tests test all parts.1 k one at

only_one : (all : List Operand) (to : Operand) → only all ≡ Some to → (slice_get all 0 ≡ Some to) × ((k : ℕ) (one : Operand) → slice_get all k ≡ Some one → one ≡ to)
only_one [] to is = absurd (none-some to is)
only_one (first ∷ rest) to is = by (list_all (same_operand first) rest) refl is
  where
    by : (b : Bool) → list_all (same_operand first) rest ≡ b → (if b then Some first else None) ≡ Some to
        → (slice_get (first ∷ rest) 0 ≡ Some to) × ((k : ℕ) (one : Operand) → slice_get (first ∷ rest) k ≡ Some one → one ≡ to)
    by false all_is is = absurd (none-some to is)
    by true all_is is = (is, λ k one at. each k one at)
      where
        each : (k : ℕ) (one : Operand) → slice_get (first ∷ rest) k ≡ Some one → one ≡ to
        each zero one at = sym (same_Some first one at) ∙ same_Some first to is
        each (suc k) one at = sym (same_is first one (all_tests (same_operand first) rest all_is k one at)) ∙ same_Some first to is

meets : (value : ℕ) (all : List Operand) (to : Operand) → substitute value all ops.Phi ≡ Some to → Meets value all to
meets value all to is =
    let one = only_one (filter (other_than value) all) to is in
    let there = passed (other_than value) all 0 to one.0 in
    record {
      place = there.0;
      at = there.1;
      other = not_tests (same_operand (named value) to) there.2;
      each = λ k each at apart.
          let inside = passing (other_than value) all k each at (tests_not (same_operand (named value) each) apart) in
          one.1 inside.0 each inside.1;
    }

-- ---- the table begins

number_there : (count value : ℕ) → slice_index_or (map named (range_with_len 0 count)) value (named value) ≡ named value
number_there count value = elim (cases_lt value count) [
  | inl below ↦
      let long = length-range_with_len 0 count in
      let none : 0 + value ≡ value = omega arith in
      get_or-map named (range_with_len 0 count) value 0 (named value) (omega (arith, long, below)) ∙ ap named (get_or-range_with_len 0 count value 0 below ∙ none)
  | inr past ↦
      let long = length-range_with_len 0 count in
      let all = length-map (range_with_len 0 count) named in
      get_or_past (map named (range_with_len 0 count)) value (named value) (omega (arith, long, all, past))
]

unchanged_stays : (func : Function) (value : ℕ) → stays (unchanged func) value ≡ true
unchanged_stays func value = is_same value (stands_for (unchanged func) (named value)) (number_there (length (definitions_of func)) value)

unchanged_whole : (func : Function) → length (unchanged func) ≡ length (definitions_of func)
unchanged_whole func = length-map (range_with_len 0 (length (definitions_of func))) named ∙ length-range_with_len 0 (length (definitions_of func))

pub foldings_begin : (func : Function) → IsFolding func (unchanged func)
foldings_begin func = record {
  whole = unchanged_whole func;
  arguments = λ value below. unchanged_stays func value;
  closed = λ value. ap (stands_for (unchanged func)) (number_there (length (definitions_of func)) value);
  each = λ value inst gives gone. absurd (false≢true (sym gone ∙ unchanged_stays func value));
  typed = λ value ty at. subst (λ (o : Operand). Fits (value_types func) o ty) (sym (number_there (length (definitions_of func)) value)) at;
  derived = λ value to is derived.
      let same : named value ≡ named to = sym (number_there (length (definitions_of func)) value) ∙ is in
      subst (Derived func) (sym (same_number value to same)) derived;
}

pub thinnings_begin : (func : Function) → IsThinning func (unchanged func)
thinnings_begin func = record {
  whole = unchanged_whole func;
  arguments = λ value below. unchanged_stays func value;
  pure = λ value inst gives gone. absurd (false≢true (sym gone ∙ unchanged_stays func value));
  unused = λ value gone place user at used. absurd (false≢true (sym gone ∙ unchanged_stays func value));
}

-- ---- one value more

-- an operand stands for itself or a value
module _ (func : Function) (table : Table) (folding : IsFolding func table) where
  abbrev S : Operand → Operand
  S each = stands_for table each

  closed_there : (each : Operand) → S (S each) ≡ S each
  closed_there (Value id) = folding.closed id.0
  closed_there (Int literal) = refl
  closed_there Null = refl
  closed_there (Fun called) = refl

  typed_there : (each : Operand) (ty : Ty) → Fits (value_types func) each ty → Fits (value_types func) (S each) ty
  typed_there (Value id) ty fits = folding.typed id.0 ty fits
  typed_there (Int literal) ty fits = fits
  typed_there Null ty fits = fits
  typed_there (Fun called) ty fits = fits

  all_typed : (all : List Operand) (asks : List Ty) → AllZip (Fits (value_types func)) all asks → AllZip (Fits (value_types func)) (map S all) asks
  all_typed [] [] fits = fits
  all_typed [] (ty ∷ asks) fits = absurd fits
  all_typed (one ∷ all) [] fits = absurd fits
  all_typed (one ∷ all) (ty ∷ asks) fits = (typed_there one ty fits.0, all_typed all asks fits.1)

  -- the operand for which another stands, at a place of an instruction
  record StoodAt (inst : Instruction) (to : Operand) : Type 0 where
    pub place : ℕ
    pub operand : Operand
    pub at : slice_get inst.operands place ≡ Some operand
    pub is : S operand ≡ to
    pub merge : is_merge inst.op ≡ true
    pub fits : AllZip (Fits (value_types func)) inst.operands (asked inst.op inst.ty (length inst.operands)) → Fits (value_types func) operand (outcome_type inst.op inst.ty)

  -- three operands under the table
  record ThreeBack (all : List Operand) (one two three : Operand) : Type 0 where
    pub first : Operand
    pub second : Operand
    pub third : Operand
    pub whole : all ≡ first ∷ second ∷ third ∷ []
    pub first_is : S first ≡ one
    pub second_is : S second ≡ two
    pub third_is : S third ≡ three

  three_back : (all : List Operand) (one two three : Operand) → map S all ≡ one ∷ two ∷ three ∷ [] → ThreeBack all one two three
  three_back [] one two three is = absurd cc
  three_back (x ∷ []) one two three is = absurd cc
  three_back (x ∷ y ∷ []) one two three is = absurd cc
  three_back (x ∷ y ∷ z ∷ w ∷ all) one two three is = absurd cc
  three_back (x ∷ y ∷ z ∷ []) one two three is = record {
    first = x;
    second = y;
    third = z;
    whole = refl;
    first_is = (let e : S x ≡ one = cc in e);
    second_is = (let e : S y ≡ two = cc in e);
    third_is = (let e : S z ≡ three = cc in e);
  }

  zip_at : (values : List Ty) (all : List Operand) (ty : Ty) (place : ℕ) (one : Operand) → AllZip (Fits values) all (replicate (length all) ty) → slice_get all place ≡ Some one → Fits values one ty
  zip_at values [] ty place one fits at = absurd (none-some one at)
  zip_at values (first ∷ all) ty zero one fits at = subst (λ (o : Operand). Fits values o ty) (same_Some first one at) fits.0
  zip_at values (first ∷ all) ty (suc place) one fits at = zip_at values all ty place one fits.1 at

  merges : (value : ℕ) (op : Op) (all : List Operand) (to : Operand) → substitute value all op ≡ Some to → ((op ≡ ops.Select) × Selects value all to) ⊎ ((op ≡ ops.Phi) × Meets value all to)
  merges value ops.Select all to is = inl (refl, selects value all to is)
  merges value ops.Phi all to is = inr (refl, meets value all to is)
  merges value op all to is = absurd (none-some to is)

  module _ (value : ℕ) (inst : Instruction) (to : Operand) (gives : Gives func value inst) (here : stays table value ≡ true) where
    abbrev after : Table
    after = replaced table value to

    abbrev W : Operand → Operand
    W each = swapped value to each

    below : value < length table
    below = let within = slice_get_within (definitions_of func) value (outcome inst) gives in let whole = folding.whole in omega (arith, within, whole)

    after_is : (each : Operand) → stands_for after each ≡ W (S each)
    after_is each = replaced_stands table value to below each

    -- what is asked of the operand
    record Step : Type 0 where
      pub apart : same_operand (named value) to ≡ false
      pub stable : S to ≡ to
      pub fits : (ty : Ty) → slice_get (value_types func) value ≡ Some ty → Fits (value_types func) to ty
      pub derived : (own : ℕ) → to ≡ named own → Derived func own → Derived func value
      pub folds : Folds after value inst to

    itself : S (named value) ≡ named value
    itself = stays_is table value here

    -- literals stay under the further table
    literals_still : (all : List Operand) → list_all is_literal (map S all) ≡ true → map (stands_for after) all ≡ map S all
    literals_still [] are = refl
    literals_still (one ∷ all) are =
        let parts = and_parts (is_literal (S one)) (list_all is_literal (map S all)) are in
        ap (λ (o : Operand). o ∷ map (stands_for after) all) (after_is one ∙ swapped_other value to (S one) (literal_apart (S one) parts.0))
        ∙ ap (λ (os : List Operand). S one ∷ os) (literals_still all parts.1)
      where
        literal_apart : (each : Operand) → is_literal each ≡ true → same_operand (named value) each ≡ false
        literal_apart (Int word) is = refl
        literal_apart (Value id) is = absurd (false≢true is)
        literal_apart Null is = absurd (false≢true is)
        literal_apart (Fun called) is = absurd (false≢true is)

    -- what stood for the value stands for the operand
    after_same : (each : Operand) → S each ≡ named value → stands_for after each ≡ to
    after_same each is = after_is each ∙ swapped_same value to (S each) (is_same value (S each) is)

    after_other : (each : Operand) → same_operand (named value) (S each) ≡ false → stands_for after each ≡ S each
    after_other each other = after_is each ∙ swapped_other value to (S each) other

    -- ---- a table of which this holds is a folding

    module _ (step : Step) where
      to_stays : stands_for after to ≡ to
      to_stays = after_is to ∙ (ap W step.stable ∙ swapped_other value to to step.apart)

      closed_still : (own : ℕ) → stands_for after (stands_for after (named own)) ≡ stands_for after (named own)
      closed_still own = elim (cases_Bool (same_operand (named value) (S (named own)))) [
        | inl same ↦ (let is = after_same (named own) (sym (same_is (named value) (S (named own)) same)) in ap (stands_for after) is ∙ (to_stays ∙ sym is))
        | inr other ↦
            let is = after_other (named own) other in
            let stable : S (S (named own)) ≡ S (named own) = folding.closed own in
            let apart : same_operand (named value) (S (S (named own))) ≡ false = ap (same_operand (named value)) stable ∙ other in
            ap (stands_for after) is ∙ (after_other (S (named own)) apart ∙ (stable ∙ sym is))
      ]

      typed_still : (own : ℕ) (ty : Ty) → slice_get (value_types func) own ≡ Some ty → Fits (value_types func) (stands_for after (named own)) ty
      typed_still own ty at =
          let old = folding.typed own ty at in
          elim (cases_Bool (same_operand (named value) (S (named own)))) [
            | inl same ↦
                let is = sym (same_is (named value) (S (named own)) same) in
                let there : slice_get (value_types func) value ≡ Some ty = subst (λ (o : Operand). Fits (value_types func) o ty) is old in
                subst (λ (o : Operand). Fits (value_types func) o ty) (sym (after_same (named own) is)) (step.fits ty there)
            | inr other ↦ subst (λ (o : Operand). Fits (value_types func) o ty) (sym (after_other (named own) other)) old
          ]

      derived_still : (own other : ℕ) → stands_for after (named own) ≡ named other → Derived func other → Derived func own
      derived_still own other is derived = elim (cases_Bool (same_operand (named value) (S (named own)))) [
        | inl same ↦
            let there = sym (same_is (named value) (S (named own)) same) in
            folding.derived own value there (step.derived other (sym (after_same (named own) there) ∙ is) derived)
        | inr apart ↦ folding.derived own other (sym (after_other (named own) apart) ∙ is) derived
      ]

      folds_still : (own : ℕ) (user : Instruction) (each : Operand) → Folds table own user each → each ≡ S (named own) → Folds after own user (stands_for after (named own))
      folds_still own user _ (by_operator literal kind literals value_is) same =
          let still = literals_still user.operands literals in
          let is : stands_for after (named own) ≡ Int literal = after_is (named own) ∙ ap W (sym same) in
          subst (Folds after own user) (sym is)
          (by_operator literal kind (ap (list_all is_literal) still ∙ literals) (ap (λ (os : List Operand). value_of_line [] [] user.op user.ty os) still ∙ value_is))
      folds_still own user _ (by_choice asks first second condition op operands condition_is) same =
          let chosen_one : Operand = if nat_lt 0 condition then first else second in
          let is : stands_for after (named own) ≡ stands_for after chosen_one = after_is (named own) ∙ (ap W (sym same) ∙ sym (after_is chosen_one)) in
          subst (Folds after own user) (sym is) (by_choice asks first second condition op operands (after_is asks ∙ ap W condition_is))
      folds_still own user _ (by_entries other op entries) same =
          let is : stands_for after (named own) ≡ W other = after_is (named own) ∙ ap W (sym same) in
          subst (Folds after own user) (sym is)
          (by_entries (W other) op (all_from_at (λ entry. (entry ≡ named own) ⊎ (stands_for after entry ≡ W other)) user.operands (λ k entry at.
          elim (all_at (λ entry. (entry ≡ named own) ⊎ (S entry ≡ other)) user.operands k entry entries at) [
            | inl itself_is ↦ inl itself_is
            | inr stands ↦ inr (after_is entry ∙ ap W stands)
          ])))

      each_still : (own : ℕ) (user : Instruction) → Gives func own user → stays after own ≡ false → Folds after own user (stands_for after (named own))
      each_still own user given gone = elim (cases_eq own value) [
        | inl same ↦
            let given_here : Gives func value user = subst (λ (v : ℕ). Gives func v user) same given in
            let one : inst ≡ user = same_instruction func value inst user gives given_here in
            let is : stands_for after (named own) ≡ to = ap (λ (v : ℕ). stands_for after (named v)) same ∙ after_same (named value) itself in
            subst (Folds after own user) (sym is) (subst (λ (v : ℕ). Folds after v user to) (sym same) (subst (λ (i : Instruction). Folds after value i to) one step.folds))
        | inr other ↦ elim (cases_Bool (stays table own)) [
          | inr was_gone ↦ folds_still own user (S (named own)) (folding.each own user given was_gone) refl
          | inl stayed ↦
              let is : S (named own) ≡ named own = stays_is table own stayed in
              let apart : same_operand (named value) (S (named own)) ≡ false = ap (same_operand (named value)) is ∙ other_number value own (λ same. other (sym same)) in
              absurd (false≢true (sym gone ∙ is_same own (stands_for after (named own)) (after_other (named own) apart ∙ is)))
        ]
      ]

      arguments_still : (own : ℕ) → own < length func.args → stays after own ≡ true
      arguments_still own below_args =
          let high = given_high func value inst gives in
          let is : S (named own) ≡ named own = stays_is table own (folding.arguments own below_args) in
          let apart : same_operand (named value) (S (named own)) ≡ false = ap (same_operand (named value)) is ∙ other_number value own (λ same. omega (arith, same, high, below_args)) in
          is_same own (stands_for after (named own)) (after_other (named own) apart ∙ is)

      grows : IsFolding func after
      grows = record {
        whole = length-map table W ∙ folding.whole;
        arguments = arguments_still;
        closed = closed_still;
        each = each_still;
        typed = typed_still;
        derived = derived_still;
      }

    -- ---- and a step is one

    -- an operand that is merged stands for the operand
    module _ (content : ModuleContent) (of : IsOfSource content func) where
      at_place : (place : ℕ) × (slice_get (instructions_of func.blocks) place ≡ Some inst)
      at_place = let at = given_at func value inst gives in (at.place, at.stands)

      its : (P : Instruction → Type 0) → All P (instructions_of func.blocks) → P inst
      its P all = all_at P (instructions_of func.blocks) at_place.0 inst all at_place.1

      its_types : IsTyped (scope_of content func) inst
      its_types = its (IsTyped (scope_of content func)) (of.lines).lines

      its_type : (ty : Ty) → slice_get (value_types func) value ≡ Some ty → outcome_type inst.op inst.ty ≡ ty
      its_type ty at = same_Some (outcome_type inst.op inst.ty) ty (sym (get_map definition_type (definitions_of func) value (outcome inst) gives) ∙ at)

      its_widths : All IsWidth (line_widths inst)
      its_widths =
          its (λ (i : Instruction). All IsWidth (line_widths i))
          (all_flat IsWidth line_widths (instructions_of func.blocks) (all_back IsWidth (type_widths func.answer ++ flat_map (λ (arg : Arg). type_widths arg.ty) func.args) (flat_map line_widths (instructions_of func.blocks)) (of.typed).widths))

      by_stood : StoodAt inst to → same_operand (named value) to ≡ false → Folds after value inst to → Step
      by_stood stood apart folds = record {
        apart = apart;
        stable = ap S (sym stood.is) ∙ (closed_there stood.operand ∙ stood.is);
        fits = λ ty at.
            let its_own : Fits (value_types func) stood.operand ty = subst (λ (t : Ty). Fits (value_types func) stood.operand t) (its_type ty at) (stood.fits its_types.operands) in
            subst (λ (o : Operand). Fits (value_types func) o ty) stood.is (typed_there stood.operand ty its_own);
        derived = λ own is derived.
            let there : S stood.operand ≡ named own = stood.is ∙ is in
            let names = names_value table stood.operand own there in
            by_merge value names.0 inst gives stood.merge (operand_used inst stood.place names.0 (stood.at ∙ ap (λ (o : Operand). Some o) names.1))
            (folding.derived names.0 own (ap S (sym names.1) ∙ there) derived);
        folds = folds;
      }

      literal_step : (literal : ℕ) → to ≡ Int literal → computes inst.op ≡ true → list_all is_literal (map S inst.operands) ≡ true
          → value_of_line [] [] inst.op inst.ty (map S inst.operands) ≡ Ok (number literal) → Step
      literal_step literal is kind literals value_is =
          let still = literals_still inst.operands literals in
          let zip : AllZip (Fits (value_types func)) (map S inst.operands) (asked inst.op inst.ty (length (map S inst.operands))) =
          subst (λ (n : ℕ). AllZip (Fits (value_types func)) (map S inst.operands) (asked inst.op inst.ty n)) (sym (length-map inst.operands S))
          (all_typed inst.operands (asked inst.op inst.ty (length inst.operands)) its_types.operands) in
          let fits = literal_fits (scope_of content func) inst (map S inst.operands) kind (its IsLine (of.typed).lines) its_types.rule its_widths literals zip literal value_is in
          record {
            apart = ap (same_operand (named value)) is;
            stable = ap S is ∙ sym is;
            fits = λ ty at. subst (λ (o : Operand). Fits (value_types func) o ty) (sym is) (subst (λ (t : Ty). Fits (value_types func) (Int literal) t) (its_type ty at) fits);
            derived = λ own names. absurd (no_value literal own (sym is ∙ names));
            folds = subst (Folds after value inst) (sym is)
                (by_operator literal kind (ap (list_all is_literal) still ∙ literals) (ap (λ (os : List Operand). value_of_line [] [] inst.op inst.ty os) still ∙ value_is));
          }
        where
          no_value : (literal own : ℕ) → Int literal ≡ named own → ⊥
          no_value literal own is = cc

      select_step : inst.op ≡ ops.Select → Selects value (map S inst.operands) to → Step
      select_step op is =
          let three = three_back inst.operands (Int is.condition) is.first is.second is.whole in
          let test : Bool = nat_lt 0 is.condition in
          let stood_is : S (if test then three.second else three.third) ≡ to = by_test test three.second three.third is.first is.second three.second_is three.third_is ∙ is.is in
          let there : stands_for after (if test then three.second else three.third) ≡ to = after_is (if test then three.second else three.third) ∙ (ap W stood_is ∙ swapped_other value to to is.other) in
          by_stood (stood test three.first three.second three.third three.whole stood_is) is.other
          (subst (Folds after value inst) there (by_choice three.first three.second three.third is.condition op three.whole (after_is three.first ∙ ap W three.first_is)))
        where
          by_test : (test : Bool) (one other first second : Operand) → S one ≡ first → S other ≡ second → S (if test then one else other) ≡ (if test then first else second)
          by_test true one other first second one_is other_is = one_is
          by_test false one other first second one_is other_is = other_is

          three_fit : (asks first second : Operand) → inst.operands ≡ asks ∷ first ∷ second ∷ [] → AllZip (Fits (value_types func)) inst.operands (asked inst.op inst.ty (length inst.operands))
              → Fits (value_types func) first inst.ty × Fits (value_types func) second inst.ty
          three_fit asks first second whole fits =
              let here : AllZip (Fits (value_types func)) (asks ∷ first ∷ second ∷ []) (types.Int 1 ∷ inst.ty ∷ inst.ty ∷ []) =
              subst (λ (os : List Operand). AllZip (Fits (value_types func)) os (types.Int 1 ∷ inst.ty ∷ inst.ty ∷ [])) whole
              (subst (λ (o : Op). AllZip (Fits (value_types func)) inst.operands (asked o inst.ty (length inst.operands))) op fits) in
              ((here.1).0, ((here.1).1).0)

          own_type : outcome_type inst.op inst.ty ≡ inst.ty
          own_type = ap (λ (o : Op). outcome_type o inst.ty) op

          stood : (test : Bool) (asks first second : Operand) → inst.operands ≡ asks ∷ first ∷ second ∷ [] → S (if test then first else second) ≡ to → StoodAt inst to
          stood true asks first second whole is = record {
            place = 1;
            operand = first;
            at = ap (λ (os : List Operand). slice_get os 1) whole;
            is = is;
            merge = ap is_merge op;
            fits = λ fits. subst (λ (t : Ty). Fits (value_types func) first t) (sym own_type) (three_fit asks first second whole fits).0;
          }
          stood false asks first second whole is = record {
            place = 2;
            operand = second;
            at = ap (λ (os : List Operand). slice_get os 2) whole;
            is = is;
            merge = ap is_merge op;
            fits = λ fits. subst (λ (t : Ty). Fits (value_types func) second t) (sym own_type) (three_fit asks first second whole fits).1;
          }

      phi_step : inst.op ≡ ops.Phi → Meets value (map S inst.operands) to → Step
      phi_step op is =
          let image = map_back S inst.operands is.place to is.at in
          by_stood (record {
            place = is.place;
            operand = image.before;
            at = image.stands;
            is = sym image.is;
            merge = ap is_merge op;
            fits = λ fits. subst (λ (t : Ty). Fits (value_types func) image.before t) (sym (ap (λ (o : Op). outcome_type o inst.ty) op))
                (zip_at (value_types func) inst.operands inst.ty is.place image.before
                (subst (λ (o : Op). AllZip (Fits (value_types func)) inst.operands (asked o inst.ty (length inst.operands))) op fits) image.stands);
          }) is.other (by_entries to op (all_from_at (λ entry. (entry ≡ named value) ⊎ (stands_for after entry ≡ to)) inst.operands (λ k entry at.
          inr (elim (cases_Bool (same_operand (named value) (S entry))) [
            | inl same ↦ after_same entry (sym (same_is (named value) (S entry) same))
            | inr other ↦ after_other entry other ∙ is.each k (S entry) (get_map S inst.operands k entry at) other
          ]))))

      step_of : (one : Operand) → Steps table value inst one → one ≡ to → Step
      step_of _ (by_literals literal kind literals value_is) is = literal_step literal (sym is) kind literals value_is
      step_of _ (by_substitute one found) is =
          elim (merges value inst.op (map S inst.operands) to (found ∙ ap (λ (o : Operand). Some o) is)) [
            | inl select ↦ select_step select.0 select.1
            | inr phi ↦ phi_step phi.0 phi.1
          ]

pub foldings_grow : FoldingsGrow
foldings_grow content source place func found table folding value inst to gives here steps =
    grows func table folding value inst to gives here (step_of func table folding value inst to gives here content (of_source content source place func found) to steps refl)

-- ---- thinnings

module _ (func : Function) (table : Table) (thinning : IsThinning func table) (value : ℕ) (inst : Instruction) (gives : Gives func value inst) where
  abbrev thinner : Table
  thinner = replaced table value Null

  thinner_is : (each : Operand) → stands_for thinner each ≡ swapped value Null (stands_for table each)
  thinner_is each =
      let within = slice_get_within (definitions_of func) value (outcome inst) gives in
      let whole = thinning.whole in
      replaced_stands table value Null (omega (arith, within, whole)) each

  gone_still : (own : ℕ) → stays table own ≡ false → stays thinner own ≡ false
  gone_still own gone = ap (same_operand (named own)) (thinner_is (named own)) ∙ by (same_operand (named value) (stands_for table (named own)))
    where
      by : (same : Bool) → same_operand (named own) (if same then Null else stands_for table (named own)) ≡ false
      by true = refl
      by false = gone

  gone_now : stays table value ≡ true → stays thinner value ≡ false
  gone_now here =
      ap (same_operand (named value)) (thinner_is (named value) ∙ swapped_same value Null (stands_for table (named value)) here)

  stays_still : (own : ℕ) → (own ≡ value → ⊥) → stays table own ≡ true → stays thinner own ≡ true
  stays_still own apart here =
      let is : stands_for table (named own) ≡ named own = stays_is table own here in
      let other : same_operand (named value) (stands_for table (named own)) ≡ false = ap (same_operand (named value)) is ∙ other_number value own (λ same. apart (sym same)) in
      ap (same_operand (named own)) (thinner_is (named own) ∙ swapped_other value Null (stands_for table (named own)) other) ∙ here

  was_gone : (own : ℕ) → (own ≡ value → ⊥) → stays thinner own ≡ false → stays table own ≡ false
  was_gone own apart gone = elim (cases_Bool (stays table own)) [
    | inl here ↦ absurd (false≢true (sym gone ∙ stays_still own apart here))
    | inr was ↦ was
  ]

pub thinnings_grow : ThinningsGrow
thinnings_grow func table thinning value inst gives pure here left = record {
  whole = length-map table (swapped value Null) ∙ thinning.whole;
  arguments = λ own below.
      let high = given_high func value inst gives in
      stays_still func table thinning value inst gives own (λ same. omega (arith, same, high, below)) (thinning.arguments own below);
  pure = λ own user given gone. elim (cases_eq own value) [
    | inl same ↦
        let one : inst ≡ user = same_instruction func value inst user gives (subst (λ (v : ℕ). Gives func v user) same given) in
        subst (λ (i : Instruction). is_pure i ≡ true) one pure
    | inr apart ↦ thinning.pure own user given (was_gone func table thinning value inst gives own apart gone)
  ];
  unused = λ own gone place user at used. elim (cases_eq own value) [
    | inl same ↦
        let goes = left place user at (subst (λ (v : ℕ). Contains (values_used user) v) same used) in
        elim goes.1 [
          | inl before ↦ (goes.0, gone_still func table thinning value inst gives (number_at func place) before)
          | inr itself ↦ (goes.0, ap (stays (replaced table value Null)) itself ∙ gone_now func table thinning value inst gives here)
        ]
    | inr apart ↦
        let goes = thinning.unused own (was_gone func table thinning value inst gives own apart gone) place user at used in
        (goes.0, gone_still func table thinning value inst gives (number_at func place) goes.1)
  ];
}
