-- Derived pointers of a folded function stand for derived ones, so they stay in registers.
use Rattle.std.proofs.Common.{◌≡◌, ℕ, suc, ◌+◌, ◌-◌, ◌<◌, Bool, true, false, not, cond, ◌&&◌, List, ◌∷◌, length, map, refl, sym, ap, subst, ◌∙◌, inl, inr, arith}
use Rattle.std.specs.Prelude.{Some, filter, is_some, slice_get}
use Rattle.std.specs.List.{Contains, filter_map, range_with_len}
use Rattle.std.proofs.lemmas.Bool.{cases_lt}
use Rattle.std.proofs.lemmas.List.{length-map}
use Rattle.std.proofs.lemmas.List.FromFn.{length-range_with_len}
use Rattle.std.proofs.lemmas.Option.{same_Some, slice_get_within}
use Rattle.list_laws.proofs.Contents.{all_at, all_from_at, contains_get}
use Rattle.list_laws.proofs.Places.{filter_map_back, filter_map_forth, get_front, map_back}
use Rattle.ir_ast.specs.declared.types.Ty.{Ty}
use Rattle.ir_ast.specs.declared.ops.Op.TheVariants as ops
use Rattle.ir_ast.specs.declared.ops.Operand.{Operand}
use Rattle.ir_ast.specs.Derived.{Derived, by_merge, by_step, is_merge, is_step}
use Rattle.ir_ast.specs.Funcs.{Function, instructions_of}
use Rattle.ir_ast.specs.Insts.{Instruction}
use Rattle.ir_ast.specs.Operands.{named, operands_of, value_in, values_used}
use Rattle.ir_ast.specs.Values.{Definition, Gives, argument, definitions_of, outcome}
use Rattle.ir_ast.specs.Faults.DerivedEscapes.{DerivedStay, KeepsDerived, leaving, values_leaving}
use Rattle.ir_ast.specs.Faults.GroupShape.{number_at}
use Rattle.ir_ast.proofs.OpLaws.{leaving_map}
use Rattle.graph_search.specs.Paths.{Marked}
use Rattle.ir_cfg.specs.Unreached.{kept_of}
use Rattle.ir_cfg.proofs.KeepsPlaces.{kept_back, marks_before}
use Rattle.ir_cfg.proofs.UsedLaws.{leaving_at}
use Rattle.folded_forms.specs.Folded.{Table, folded, folded_line, folded_operand, stays}
use Rattle.base_definite.proofs.base_relations.GroupLaws.{given_at}
use Rattle.folded_forms.proofs.TableLaws.{same_number}
use Rattle.folded_source.proofs.LineLaws.{line_stays}
use Rattle.folded_source.proofs.PlaceLaws.{lines_folded}
use Rattle.folded_source.proofs.Settled.{IsSettled, Stood, stood, used_from}
use Rattle.folded_source.proofs.ValueLaws.{counted, definition_folded, filter_split, mark_of, new_definitions, value_counted, value_marks}

-- ---- values that stay have numbers of their own

pub counted_less : (table : Table) (one other : ℕ) → stays table one ≡ true → one < other → counted table one < counted table other
counted_less table one other stay less =
    let more : ℕ = other - one - 1 in
    let sum : one + suc more ≡ other = omega arith in
    let split = filter_split table 0 one (suc more) in
    let none : 0 + one ≡ one = omega arith in
    let first : length (filter (stays table) (range_with_len (0 + one) (suc more))) ≡ suc (length (filter (stays table) (range_with_len (0 + one + 1) more))) =
    ap (λ (mark : Bool). length (cond mark ((0 + one) ∷ filter (stays table) (range_with_len (0 + one + 1) more)) (filter (stays table) (range_with_len (0 + one + 1) more)))) (ap (stays table) none ∙ stay) in
    let whole = ap (counted table) sum in
    omega (arith, split, first, whole)

pub counted_same : (table : Table) (one other : ℕ) → stays table one ≡ true → stays table other ≡ true → counted table one ≡ counted table other → one ≡ other
counted_same table one other stay stay_other same = elim (cases_lt one other) [
  | inl less ↦ absurd (let rises = counted_less table one other stay less in omega (arith, rises, same))
  | inr le ↦ elim (cases_lt other one) [
    | inl more ↦ absurd (let rises = counted_less table other one stay_other more in omega (arith, rises, same))
    | inr both ↦ omega (arith, le, both)
  ]
]

-- ---- what is stored, passed or returned

value_leaves : (leaves : List Operand) (place : ℕ) (one : Operand) (own : ℕ) → slice_get leaves place ≡ Some one → one ≡ named own → (k : ℕ) × (slice_get (filter_map value_in leaves) k ≡ Some own)
value_leaves leaves place one own at names = filter_map_forth value_in leaves place one own at (ap value_in names)

module _ (func : Function) (table : Table) (settled : IsSettled func table) where
  -- what a result comes from
  record GivesFrom (value : ℕ) (new : Instruction) : Type 0 where
    pub old : ℕ
    pub line : Instruction
    pub stay : stays table old ≡ true
    pub number : counted table old ≡ value
    pub gives : Gives func old line
    pub is : new ≡ folded_line table line

  outcome_of : Instruction → Definition → Instruction
  outcome_of inst (argument arg) = inst
  outcome_of inst (outcome given) = given

  stays_marked : (value : ℕ) → Marked (value_marks table func) value → (value < length (definitions_of func)) × (stays table value ≡ true)
  stays_marked value marked =
      let within = slice_get_within (value_marks table func) value true marked in
      let long = length-map (range_with_len 0 (length (definitions_of func))) (stays table) in
      let all = length-range_with_len 0 (length (definitions_of func)) in
      let below : value < length (definitions_of func) = omega (arith, within, long, all) in
      let none : 0 + value ≡ value = omega arith in
      (below, sym (ap (stays table) none) ∙ same_Some (stays table (0 + value)) true (sym (mark_of table 0 (length (definitions_of func)) value below) ∙ marked))

  gives_from : (value old : ℕ) (new : Instruction) (given : Definition) → Marked (value_marks table func) old → marks_before (value_marks table func) old ≡ value
      → slice_get (definitions_of func) old ≡ Some given → outcome new ≡ definition_folded table given → GivesFrom value new
  gives_from value old new (argument arg) marked same at is = absurd cc
  gives_from value old new (outcome line) marked same at is =
      let there = stays_marked old marked in
      let below = there.0 in
      record {
        old = old;
        line = line;
        stay = there.1;
        number = value_counted func table settled.arguments old (omega (arith, below)) ∙ same;
        gives = at;
        is = (let same_line : new ≡ folded_line table line = cc in same_line);
      }

  gives_back : (value : ℕ) (new : Instruction) → Gives (folded func table) value new → GivesFrom value new
  gives_back value new gives =
      let left = kept_of (value_marks table func) (definitions_of func) in
      let image = map_back (definition_folded table) left value (outcome new) (ap (λ (all : List Definition). slice_get all value) (sym (new_definitions func table settled.arguments)) ∙ gives) in
      let origin = kept_back (value_marks table func) (definitions_of func) value image.before image.stands in
      gives_from value origin.place new image.before origin.marked origin.number origin.stands image.is

  -- the derived value that stays under a number
  pub record DerivedFrom (value : ℕ) : Type 0 where
    pub old : ℕ
    pub stay : stays table old ≡ true
    pub number : counted table old ≡ value
    pub derived : Derived func old

  -- an operand of a line that stays is derived, where what stands for it is
  operand_derived : (place : ℕ) (inst : Instruction) → slice_get (instructions_of func.blocks) place ≡ Some inst → line_stays table (number_at func place) inst ≡ true
      → (value : ℕ) (operand : Operand) → Contains (operands_of inst) operand → Stood table operand value → DerivedFrom value → (own : ℕ) × (operand ≡ named own) × Derived func own
  operand_derived place inst at stay value operand inside from derived =
      let own = settled.operands place inst at stay operand inside in
      let same : derived.old ≡ from.to = counted_same table derived.old from.to derived.stay (own.stays_here from.to from.stands) (derived.number ∙ from.number) in
      own.derived from.to from.stands (subst (Derived func) same derived.derived)

  pub derived_back : (value : ℕ) → Derived (folded func table) value → DerivedFrom value
  derived_back _ (by_step value new gives step) =
      let from = gives_back value new gives in
      record { old = from.old; stay = from.stay; number = from.number; derived = by_step from.old from.line from.gives (sym (ap (λ (i : Instruction). is_step i.op) from.is) ∙ step) }
  derived_back _ (by_merge value operand new gives merge used derived) =
      let from = gives_back value new gives in
      let at = given_at func from.old from.line from.gives in
      let item = used_from table from.line operand (subst (λ (i : Instruction). Contains (values_used i) operand) from.is used) in
      let stay : line_stays table (number_at func at.place) from.line ≡ true =
      ap (λ (n : ℕ). line_stays table n from.line) at.number ∙ ap (λ (b : Bool). not (is_some (from.line).result && not b)) from.stay ∙ by (is_some (from.line).result) in
      let own = operand_derived at.place from.line at.stands stay operand item.operand item.inside item.from (derived_back operand derived) in
      let same : (item.from).own ≡ own.0 = same_number (item.from).own own.0 (sym (item.from).names ∙ own.1) in
      record {
        old = from.old;
        stay = from.stay;
        number = from.number;
        derived = by_merge from.old own.0 from.line from.gives (sym (ap (λ (i : Instruction). is_merge i.op) from.is) ∙ merge) (subst (λ (n : ℕ). Contains (values_used from.line) n) same item.used) own.2;
      }
    where
      by : (given : Bool) → not (given && false) ≡ true
      by true = refl
      by false = refl

  keeps_there : (place : ℕ) (inst : Instruction) → slice_get (instructions_of func.blocks) place ≡ Some inst → line_stays table (number_at func place) inst ≡ true
      → KeepsDerived func inst → KeepsDerived (folded func table) (folded_line table inst)
  keeps_there place inst at stay keeps = all_from_at (λ value. Derived (folded func table) value → ⊥) (values_leaving (folded_line table inst)) (λ k value there derived.
      let leaves = leaving inst.op inst.operands in
      let item = filter_map_back value_in (map (folded_operand table) leaves) value k
      (ap (λ (all : List Operand). slice_get (filter_map value_in all) k) (sym (leaving_map (folded_operand table) inst.op inst.operands)) ∙ there) in
      let image = map_back (folded_operand table) leaves item.place item.item item.stands in
      let operand_at = leaving_at inst.op inst.operands item.place image.before image.stands in
      let inside = contains_get (operands_of inst) item.place image.before (get_front inst.operands (map (λ (entry : Ty × Operand). entry.1) inst.bundle) item.place image.before operand_at) in
      let from = stood table image.before value (ap value_in (sym image.is) ∙ item.gives) in
      let own = operand_derived place inst at stay value image.before inside from (derived_back value derived) in
      let forth = value_leaves leaves item.place image.before own.0 image.stands own.1 in
      all_at (λ (each : ℕ). Derived func each → ⊥) (values_leaving inst) forth.0 own.0 keeps forth.1 own.2)

  pub derived_stay : DerivedStay func → DerivedStay (folded func table)
  derived_stay keeps = lines_folded func table (KeepsDerived (folded func table)) (λ place inst at stay.
      keeps_there place inst at stay (all_at (KeepsDerived func) (instructions_of func.blocks) place inst keeps at))
