-- The table of bases has the base of each value.
use Rattle.std.proofs.Common.{◌≡◌, ℕ, zero, suc, ◌+◌, ◌≤◌, Bool, true, false, if◌then◌else◌, List, [], ◌∷◌, ◌++◌, length, refl, sym, ap, subst, ◌∙◌, ◌⊎◌, inl, inr, arith}
use Rattle.std.specs.Prelude.{Option, Some, slice_get}
use Rattle.std.specs.List.{All, flat_map, range_with_len}
use Rattle.std.specs.Option.{option_map_or}
use Rattle.std.proofs.lemmas.List.{length-append}
use Rattle.list_laws.proofs.Places.{get_some}
use Rattle.sp_ids.specs.declared.ids.ValueId.{ValueId}
use Rattle.ir_ast.specs.declared.ops.Operand.{Operand}
use Rattle.ir_ast.specs.declared.ops.Operand.TheVariants as operands
use Rattle.ir_ast.specs.Bases.{Base, IsBaseTable, of_itself}
use Rattle.ir_ast.specs.Funcs.{Function, instructions_of}
use Rattle.ir_ast.specs.Values.{Definition, definitions_of}
use Rattle.base_forms.specs.DerivedMarks.{derived_marks}
use Rattle.base_forms.specs.Inserted.{has_inserted, inserted_number, new_number}
use Rattle.base_forms.specs.Bases.{base_of, bases_for}
use Rattle.base_forms.specs.Based.{base_table, based}
use Rattle.renaming_laws.specs.Renamed.{Renaming}
use Rattle.base_laws.proofs.TypeLaws.{MarksPointers}
use Rattle.base_laws.proofs.NumberLaws.{number_alone, number_behind, renaming_of, shift_last, shift_next}
use Rattle.base_laws.proofs.LineLaws.{IsReady}
use Rattle.base_laws.proofs.BlockLaws.{now_room_is}
use Rattle.base_definite.specs.Relations.{before}
use Rattle.base_definite.proofs.base_relations.EndLaws.{Ends}
use Rattle.base_definite.proofs.base_relations.BaseLaws.{derived_back, relation}
use Rattle.base_definite.proofs.base_relations.ValueLaws.{inserted_apart}
use Rattle.object_meaning.proofs.GivenLaws.{after_is, definition_count}

module _ (functions : ℕ → Renaming) (number : ℕ) (func : Function) (called : Bool) (is : functions number ≡ renaming_of called func) (pointers : MarksPointers func (derived_marks func))
    (ready : All (IsReady functions func) (instructions_of func.blocks)) (ends : (value : ValueId) → Ends func (operands.Value value)) where
  abbrev now : ℕ → ℕ
  now = new_number func (derived_marks func)

  abbrev inserted : ℕ → ℕ
  inserted = inserted_number func (derived_marks func)

  abbrev test : Definition → Bool
  test = has_inserted (derived_marks func)

  -- an entry of the table: the base of an inserted line, which is its own, or that of a value
  data Entry (place : ℕ) (base : Operand) : Type 0 where
    own_entry : (value : ℕ) (given : Definition) → slice_get (definitions_of func) value ≡ Some given → test given ≡ true → place ≡ inserted value
        → base ≡ operands.Value (record { 0 = inserted value }) → Entry place base
    value_entry : (value : ℕ) → place ≡ now value → base ≡ base_of func (derived_marks func) (operands.Value (record { 0 = value })) → Entry place base

  abbrev rows : ℕ → ℕ → List Operand
  rows start count = flat_map (bases_for func (derived_marks func)) (range_with_len start count)

  row_is : (value : ℕ) (given : Definition) → slice_get (definitions_of func) value ≡ Some given
      → bases_for func (derived_marks func) value
      ≡ (if test given then operands.Value (record { 0 = inserted value }) ∷ [] else []) ++ base_of func (derived_marks func) (operands.Value (record { 0 = value })) ∷ []
  row_is value given at =
      ap (λ (found : Option Definition). (if option_map_or (has_inserted (derived_marks func)) found false then operands.Value (record { 0 = inserted value }) ∷ [] else [])
      ++ base_of func (derived_marks func) (operands.Value (record { 0 = value })) ∷ []) at

  -- where the entries of the next value begin
  next_row : (value : ℕ) (given : Definition) → slice_get (definitions_of func) value ≡ Some given
      → length (bases_for func (derived_marks func) value) + inserted value ≡ inserted (value + 1)
  next_row value given at = ap (λ row. length row + inserted value) (row_is value given at) ∙ by (test given) refl
    where
      by : (b : Bool) → test given ≡ b
          → length ((if b then operands.Value (record { 0 = inserted value }) ∷ [] else []) ++ base_of func (derived_marks func) (operands.Value (record { 0 = value })) ∷ []) + inserted value
          ≡ inserted (value + 1)
      by true passes = let behind = number_behind func value given at passes in let next = shift_next func value in omega arith
      by false fails = let alone = number_alone func value given at fails in let next = shift_next func value in omega arith

  split_row : (row rest : List Operand) (place : ℕ) (base : Operand) → slice_get (row ++ rest) place ≡ Some base
      → (slice_get row place ≡ Some base) ⊎ ((index : ℕ) × (slice_get rest index ≡ Some base) × (place ≡ length row + index))
  split_row [] rest place base at = inr (place, at, omega arith)
  split_row (x ∷ row) rest zero base at = inl at
  split_row (x ∷ row) rest (suc place) base at = elim (split_row row rest place base at) [
    | inl here ↦ inl here
    | inr there ↦ inr (there.0, there.1, let is = there.2 in omega arith)
  ]

  row_entry : (value : ℕ) (given : Definition) → slice_get (definitions_of func) value ≡ Some given → (place : ℕ) (base : Operand)
      → slice_get (bases_for func (derived_marks func) value) place ≡ Some base → Entry (inserted value + place) base
  row_entry value given at place base found = by (test given) refl place (sym (ap (λ row. slice_get row place) (row_is value given at)) ∙ found)
    where
      by : (b : Bool) → test given ≡ b → (place : ℕ)
          → slice_get ((if b then operands.Value (record { 0 = inserted value }) ∷ [] else []) ++ base_of func (derived_marks func) (operands.Value (record { 0 = value })) ∷ []) place ≡ Some base
          → Entry (inserted value + place) base
      by true passes zero found = own_entry value given at passes (omega arith) (let same : operands.Value (record { 0 = inserted value }) ≡ base = cc in sym same)
      by true passes (suc zero) found =
          let behind = number_behind func value given at passes in
          value_entry value (omega arith) (let same : base_of func (derived_marks func) (operands.Value (record { 0 = value })) ≡ base = cc in sym same)
      by true passes (suc (suc place)) found = absurd cc
      by false fails zero found =
          let alone = number_alone func value given at fails in
          value_entry value (omega arith) (let same : base_of func (derived_marks func) (operands.Value (record { 0 = value })) ≡ base = cc in sym same)
      by false fails (suc place) found = absurd cc

  entries_from : (start count : ℕ) → start + count ≤ length (definitions_of func) → (place : ℕ) (base : Operand) → slice_get (rows start count) place ≡ Some base
      → Entry (inserted start + place) base
  entries_from start zero within place base found = absurd cc
  entries_from start (suc count) within place base found =
      let given = get_some (definitions_of func) start (omega arith) in
      elim (split_row (bases_for func (derived_marks func) start) (rows (start + 1) count) place base found) [
        | inl here ↦ row_entry start given.0 given.1 place base here
        | inr there ↦
            let further = entries_from (start + 1) count (omega arith) there.0 base there.1 in
            let next = next_row start given.0 given.1 in
            let same : inserted (start + 1) + there.0 ≡ inserted start + place = (let is = there.2 in omega arith) in
            subst (λ (n : ℕ). Entry n base) same further
      ]

  long_from : (start count : ℕ) → start + count ≤ length (definitions_of func) → length (rows start count) + inserted start ≡ inserted (start + count)
  long_from start zero within = let same : start ≡ start + 0 = omega arith in let zero_is : 0 + inserted start ≡ inserted start = omega arith in zero_is ∙ ap inserted same
  long_from start (suc count) within =
      let given = get_some (definitions_of func) start (omega arith) in
      let both = length-append (bases_for func (derived_marks func) start) (rows (start + 1) count) in
      let rest = long_from (start + 1) count (omega arith) in
      let next = next_row start given.0 given.1 in
      let same : start + 1 + count ≡ start + suc count = omega arith in
      let there = ap inserted same in
      omega arith

  zero_before : inserted 0 ≡ 0
  zero_before = omega arith

  whole : length (base_table func) ≡ length (definitions_of (based func))
  whole =
      let long = long_from 0 (length (definitions_of func)) (omega arith) in
      let same : 0 + length (definitions_of func) ≡ length (definitions_of func) = omega arith in
      let end = ap inserted same in
      let last = shift_last func in
      let none = zero_before in
      let there = definition_count (based func) in
      let counted = after_is (length func.args) (instructions_of (based func).blocks) in
      let room = now_room_is functions number func called is pointers ready in
      omega arith

  entry_base : (value : ValueId) (base : Operand) → Entry value.0 base → Base (based func) before (operands.Value value) base
  entry_base value base (own_entry from given at passes place_is base_is) =
      let same : record { 0 = inserted from } ≡ value = ap (λ (n : ℕ). let id : ValueId = record { 0 = n } in id) (sym place_is) in
      subst (Base (based func) before (operands.Value value)) (ap (λ (id : ValueId). operands.Value id) (sym same) ∙ sym base_is)
      (of_itself value (λ derived.
      let back = derived_back functions number func called is pointers ready value.0 derived in
      inserted_apart func from given at passes back.from (sym back.is_now ∙ place_is)))
  entry_base value base (value_entry from place_is base_is) =
      let same : record { 0 = now from } ≡ value = ap (λ (n : ℕ). let id : ValueId = record { 0 = n } in id) (sym place_is) in
      subst (Base (based func) before (operands.Value value)) (sym base_is)
      (subst (λ (id : ValueId). Base (based func) before (operands.Value id) (base_of func (derived_marks func) (operands.Value (record { 0 = from })))) same
      (relation functions number func called is pointers ready (operands.Value (record { 0 = from })) (ends (record { 0 = from })) tt))

  pub is_base_table : IsBaseTable (based func) before (base_table func)
  is_base_table = record {
    whole = whole;
    each = λ value base found.
        let entry = entries_from 0 (length (definitions_of func)) (omega arith) value.0 base found in
        let same : inserted 0 + value.0 ≡ value.0 = (let none = zero_before in omega arith) in
        entry_base value base (subst (λ (n : ℕ). Entry n base) same entry);
  }
