-- What the last looks show.
use Rattle.std.proofs.Common.{◌≡◌, ◌∙◌, ℕ, ◌+◌, ◌^◌, ◌<◌, ◌≤◌, Bool, true, false, not, ◌==◌, ◌&&◌, ◌||◌, if◌then◌else◌, List, [], ◌∷◌, length, get_or, map, drop, refl, sym, ap, subst, inl, inr, eq-eqb, arith}
use Rattle.std.specs.Prelude.{Option, Some, None, count_by, filter, is_some, slice_get}
use Rattle.std.specs.List.{All, Contains, list_all}
use Rattle.std.proofs.lemmas.Bool.{cases_Bool, cases_lt, false≢true, ne_eqb}
use Rattle.std.proofs.lemmas.List.Elements.{Contains-append_cases}
use Rattle.std.proofs.lemmas.List.Sums.{count_by-le-length, length-filter}
use Rattle.std.proofs.lemmas.List.{drop_all, drop_more, get_or_past, length-append, length-map}
use Rattle.std.proofs.lemmas.Option.{slice_get-get_or, slice_get_within}
use Rattle.list_laws.proofs.Contents.{all_at, contains_get, contains_image, get_contained}
use Rattle.list_laws.proofs.Places.{filter_map_back, filter_map_forth}
use Rattle.list_laws.proofs.Tests.{contained_any}
use Rattle.ir_ast.proofs.OpLaws.{got_mark, mark_got}
use Rattle.ir_ast.specs.declared.types.Ty.{Ty}
use Rattle.ir_ast.specs.declared.ops.Operand.{Operand}
use Rattle.ir_ast.specs.declared.ops.Operand.TheVariants.{Fun, Int, Null, Value}
use Rattle.ir_ast.specs.Derived.{Derived}
use Rattle.ir_ast.specs.Faults.GroupShape.{number_at}
use Rattle.ir_ast.specs.Funcs.{Function, IsSmall, instructions_of}
use Rattle.ir_ast.specs.Insts.{Instruction}
use Rattle.ir_ast.specs.Operands.{named, operands_of, same_operand, value_in, values_used}
use Rattle.ir_ast.specs.Values.{argument, definition_type, definitions_of, outcome, value_types}
use Rattle.body_tables.specs.Derivations.{MarksDerived}
use Rattle.base_definite.proofs.base_relations.GroupLaws.{given_at}
use Rattle.folded_forms.specs.Foldable.{IsReduced, is_dead, is_foldable, only, uses}
use Rattle.folded_forms.specs.Folded.{Table, stands_for, stays}
use Rattle.folded_forms.specs.Foldings.{Folds, IsFolding, IsThinning}
use Rattle.folded_forms.specs.Pure.{is_pure}
use Rattle.fold_tables.specs.Checks.{DerivedAlike, FitsAt, FoldsAt, LeftAt, MarksUsed, StaysIn, ThinsAt, UsedByAnother, UsesStay, agreed, agrees, first_of, given, goes}
use Rattle.fold_tables.specs.Lines.{EachLine, results_of}
use Rattle.fold_tables.proofs.ListLaws.{count_two}

abbrev has_result : Instruction → Bool
has_result inst = is_some inst.result

pub value_count : (func : Function) → length (definitions_of func) ≡ length func.args + results_of (instructions_of func.blocks)
value_count func =
    let outcomes = filter has_result (instructions_of func.blocks) in
    omega (arith, length-append (map argument func.args) (map outcome outcomes), length-map func.args argument, length-map outcomes outcome)

goes_is : (table : Table) (value : ℕ) (inst : Instruction) → is_some inst.result ≡ true → stays table value ≡ false → goes table value inst ≡ true
goes_is table value inst named gone = rw (named, gone) refl

goes_parts : (table : Table) (value : ℕ) (inst : Instruction) → goes table value inst ≡ true → (is_some inst.result ≡ true) × (stays table value ≡ false)
goes_parts table value inst gone = by (is_some inst.result) (stays table value) refl refl gone
  where
    by : (b c : Bool) → is_some inst.result ≡ b → stays table value ≡ c → b && not c ≡ true → (is_some inst.result ≡ true) × (stays table value ≡ false)
    by true false named gone_here is = (named, gone_here)
    by true true named stays_here is = absurd (false≢true is)
    by false c unnamed here is = absurd (false≢true is)

module _ (func : Function) (table : Table) (whole : length table ≡ length func.args + results_of (instructions_of func.blocks)) where
  abbrev text : List Instruction
  text = instructions_of func.blocks

  closed_at : All (λ operand. stands_for table operand ≡ operand) table → (value : ℕ) → stands_for table (stands_for table (named value)) ≡ stands_for table (named value)
  closed_at closed value = elim (cases_lt value (length table)) [
    | inl below ↦ all_at (λ operand. stands_for table operand ≡ operand) table value (stands_for table (named value)) closed (slice_get-get_or table value (named value) below)
    | inr past ↦ ap (stands_for table) (get_or_past table value (named value) past)
  ]

  below_table : (value : ℕ) (ty : Ty) → slice_get (value_types func) value ≡ Some ty → value < length table
  below_table value ty at =
      omega (arith, slice_get_within (value_types func) value ty at, length-map (definitions_of func) definition_type, value_count func, whole)

  same_value : (value to : ℕ) → length table ≤ value → stands_for table (named value) ≡ named to → value ≡ to
  same_value value to past is =
      let same : named value ≡ named to = sym (get_or_past table value (named value) past) ∙ is in
      ap (λ (o : Operand). number_in_operand o) same
    where
      number_in_operand : Operand → ℕ
      number_in_operand (Value id) = id.0
      number_in_operand operand = 0

  pub folding_from : (marks : List Bool) → ((value : ℕ) → value < length func.args → stays table value ≡ true)
      → All (λ operand. stands_for table operand ≡ operand) table → EachLine (FoldsAt table) (length func.args) (instructions_of func.blocks)
      → ((value : ℕ) → value < length table → FitsAt (value_types func) table value) → MarksDerived func marks
      → ((value : ℕ) → value < length table → DerivedAlike marks table value) → IsFolding func table
  folding_from marks front closed each fit derived alike = record {
    whole = whole ∙ sym (value_count func);
    arguments = front;
    closed = closed_at closed;
    each = λ value inst given gone.
        let at = given_at func value inst given in
        let here : stays table (number_at func at.place) ≡ false = ap (stays table) at.number ∙ gone in
        subst (λ (v : ℕ). Folds table v inst (stands_for table (named v))) at.number (each at.place inst at.stands (goes_is table (number_at func at.place) inst at.named here));
    typed = λ value ty at. fit value (below_table value ty at) ty at;
    derived = λ value to is derives. elim (cases_lt value (length table)) [
      | inl below ↦ derived.sound value (mark_got marks value (alike value below to is (got_mark marks to (derived.complete to derives))))
      | inr past ↦ subst (Derived func) (sym (same_value value to past is)) derives
    ];
  }

  pub thinning_from : ((value : ℕ) → value < length func.args → stays table value ≡ true) → EachLine (ThinsAt table) (length func.args) (instructions_of func.blocks)
      → IsThinning func table
  thinning_from front each = record {
    whole = whole ∙ sym (value_count func);
    arguments = front;
    pure = λ value inst given gone.
        let at = given_at func value inst given in
        let here : stays table (number_at func at.place) ≡ false = ap (stays table) at.number ∙ gone in
        (each at.place inst at.stands).pure (goes_is table (number_at func at.place) inst at.named here);
    unused = λ value gone place user at used. elim (cases_Bool (goes table (number_at func place) user)) [
      | inl goes_here ↦ goes_parts table (number_at func place) user goes_here
      | inr stays_here ↦ absurd (false≢true (sym gone ∙ (each place user at).unused stays_here value used))
    ];
  }

-- the operands and the bundle are what an instruction uses
pub uses_stay_from : (table : Table) (inst : Instruction) → All (StaysIn table) inst.operands → All (λ entry. StaysIn table entry.1) inst.bundle → UsesStay table inst
uses_stay_from table inst operands entries value used =
    let found = get_contained (values_used inst) value used in
    let from = filter_map_back value_in (operands_of inst) value found.0 found.1 in
    let item : from.item ≡ named value = names_it from.item value from.gives in
    let inside : Contains (operands_of inst) from.item = contains_get (operands_of inst) from.place from.item from.stands in
    elim (Contains-append_cases inst.operands (map (λ entry. entry.1) inst.bundle) from.item inside) [
      | inl own ↦
          let at = get_contained inst.operands from.item own in
          all_at (StaysIn table) inst.operands at.0 from.item operands at.1 value item
      | inr bundled ↦
          let image = contains_image (λ (entry : Ty × Operand). entry.1) inst.bundle from.item bundled in
          let at = get_contained inst.bundle image.of image.inside in
          let stay : StaysIn table image.of.1 = all_at (λ (entry : Ty × Operand). StaysIn table entry.1) inst.bundle at.0 image.of entries at.1 in
          stay value (image.is ∙ item)
    ]
  where
    names_it : (operand : Operand) (v : ℕ) → value_in operand ≡ Some v → operand ≡ named v
    names_it (Value id) v is = let same : id.0 ≡ v = cc in ap (λ (n : ℕ). named n) same
    names_it (Int literal) v is = absurd cc
    names_it Null v is = absurd cc
    names_it (Fun called) v is = absurd cc

-- an operand that names a value uses it
pub used_from : (inst : Instruction) (value : ℕ) → Contains (operands_of inst) (named value) → Contains (values_used inst) value
used_from inst value inside =
    let at = get_contained (operands_of inst) (named value) inside in
    let there = filter_map_forth value_in (operands_of inst) at.0 (named value) value at.1 refl in
    contains_get (values_used inst) there.0 value there.1

-- ---- nothing is left

use_found : (value : ℕ) (inst : Instruction) → Contains (values_used inst) value → uses value inst ≡ true
use_found value inst used = contained_any (λ each. each == value) (values_used inst) value used (eq-eqb value value refl)

not_dead : (func : Function) (place : ℕ) (inst : Instruction) → slice_get (instructions_of func.blocks) place ≡ Some inst → is_some inst.result ≡ true
    → UsedByAnother (length func.args) (instructions_of func.blocks) (number_at func place) → is_dead func (number_at func place) inst ≡ false
not_dead func place inst at named another =
    let value = number_at func place in
    let test : Instruction → Bool = uses value in
    let apart : place ≡ another.place → ⊥ = λ same.
    let both : Some inst ≡ Some another.user = sym at ∙ (ap (slice_get (instructions_of func.blocks)) same ∙ another.stands) in
    let one : inst ≡ another.user = cc in
    another.another (ap has_result (sym one) ∙ named) (ap (number_at func) (sym same)) in
    let more = count_two test (instructions_of func.blocks) place another.place inst another.user at another.stands apart (use_found value another.user another.uses) in
    let differs = ne_eqb (count_by test (instructions_of func.blocks)) (if test inst then 1 else 0) (λ same. omega (arith, more, same)) in
    by (is_pure inst) (count_by test (instructions_of func.blocks) == (if test inst then 1 else 0)) differs
  where
    by : (b c : Bool) → c ≡ false → b && c ≡ false
    by true c fails = fails
    by false c fails = refl

pub reduced_from : (func : Function) (marks : List Bool) → MarksUsed (length func.args) (instructions_of func.blocks) marks
    → EachLine (LeftAt marks) (length func.args) (instructions_of func.blocks) → IsReduced func
reduced_from func marks used each place inst at =
    let left = each place inst at in
    by (is_foldable (number_at func place) inst) (is_dead func (number_at func place) inst) left.settled (elim (cases_Bool (is_pure inst)) [
      | inl pure ↦ not_dead func place inst at (left.given pure) (used (number_at func place) (left.used pure))
      | inr impure ↦ ap (λ (b : Bool). b && (count_by (uses (number_at func place)) (instructions_of func.blocks) == (if uses (number_at func place) inst then 1 else 0))) impure
    ])
  where
    by : (b c : Bool) → b ≡ false → c ≡ false → b || c ≡ false
    by true c fails none = absurd (false≢true (sym fails))
    by false c fails none = none

pub given_is : (next value : ℕ) (inst : Instruction) → is_some inst.result ≡ true → next ≡ value → given next inst ≡ Some value
given_is next value inst named same = ap (λ (b : Bool). let o : Option ℕ = if b then Some next else None in o) named ∙ ap (λ (n : ℕ). Some n) same

-- ---- operands that are the same

pub agreed_not : (first : Option Operand) (operand : Operand) (operands : List Operand) → agrees first operand ≡ false → agreed first (operand ∷ operands) ≡ false
agreed_not None operand operands is = absurd (false≢true (sym is))
agreed_not (Some first) operand operands is = ap (λ (b : Bool). b && agreed (Some first) operands) is

all_agreed : (first : Operand) (operands : List Operand) → agreed (Some first) operands ≡ list_all (same_operand first) operands
all_agreed first [] = refl
all_agreed first (operand ∷ operands) = ap (λ (b : Bool). same_operand first operand && b) (all_agreed first operands)

pub agreed_only : (operands : List Operand) → agreed None operands ≡ is_some (only operands)
agreed_only [] = refl
agreed_only (first ∷ operands) = all_agreed first operands ∙ by (list_all (same_operand first) operands)
  where
    by : (b : Bool) → b ≡ is_some (if b then Some first else None)
    by true = refl
    by false = refl

-- where a tested operand at a place differs from the first
pub failed_at : (p : Operand → Bool) (first : Option Operand) (operands : List Operand) (place : ℕ) (d : Operand) → place < length operands → p (get_or operands place d) ≡ true
    → agrees first (get_or operands place d) ≡ false → agreed first (filter p (drop place operands)) ≡ false
failed_at p first operands place d below tested differs =
    let operand = get_or operands place d in
    let rest = filter p (drop (place + 1) operands) in
    let is : filter p (drop place operands) ≡ operand ∷ rest =
    ap (filter p) (drop_more operands place d below) ∙ ap (λ (b : Bool). if b then operand ∷ rest else rest) tested in
    ap (agreed first) is ∙ agreed_not first operand rest differs

pub end_at : (p : Operand → Bool) (first : Option Operand) (operands : List Operand) (place : ℕ) → length operands ≤ place → agreed first (filter p (drop place operands)) ≡ is_some first
end_at p first operands place past = ap (λ (os : List Operand). agreed first (filter p os)) (drop_all place operands past) ∙ by first
  where
    by : (o : Option Operand) → agreed o [] ≡ is_some o
    by None = refl
    by (Some operand) = refl

-- ---- few values

pub few_values : (func : Function) (table : Table) → length table ≡ length (definitions_of func) → IsSmall func.args func.blocks → length table < 2 ^ 32
few_values func table whole small =
    let insts = instructions_of func.blocks in
    omega (
      arith,
      whole,
      value_count func,
      length-filter has_result insts,
      count_by-le-length has_result insts,
      small.few_arguments,
      small.few_instructions,
    )
