-- The types of the values of the function with bases: under its new number each has the type that it had, a base is a pointer, and
-- a compare before a negation an `i1`.
use Rattle.std.proofs.Common.{◌≡◌, ℕ, zero, suc, ◌+◌, Bool, true, false, if◌then◌else◌, List, [], ◌∷◌, ◌++◌, length, map, take, refl, sym, ap, subst, ◌∙◌, arith}
use Rattle.std.specs.Prelude.{Option, Some, None, filter, is_some, slice_get}
use Rattle.std.specs.List.{All, AllZip}
use Rattle.std.specs.Option.{option_and_then, option_map_or}
use Rattle.std.proofs.lemmas.Bool.{and_parts}
use Rattle.std.proofs.lemmas.List.{same_from_push}
use Rattle.std.proofs.lemmas.Option.{slice_get_within}
use Rattle.list_laws.proofs.Contents.{all_at, all_from_at}
use Rattle.list_laws.proofs.Places.{get_front, get_map, get_middle, map_back, take_front_of}
use Rattle.ir_ast.specs.declared.types.Ty.{Ty}
use Rattle.ir_ast.specs.declared.types.Ty.TheVariants as types
use Rattle.ir_ast.specs.declared.types.Ty.TheVariants.{Ptr}
use Rattle.ir_ast.specs.declared.ops.Pred.{Pred}
use Rattle.ir_ast.specs.declared.ops.Pred.TheVariants as preds
use Rattle.ir_ast.specs.declared.ops.Op.{Op}
use Rattle.ir_ast.specs.declared.ops.Op.TheVariants as ops
use Rattle.ir_ast.specs.declared.ops.Operand.{Operand}
use Rattle.ir_ast.specs.declared.ops.Operand.TheVariants as operands
use Rattle.ir_ast.specs.Derived.{is_merge, is_step}
use Rattle.ir_ast.specs.Insts.{Instruction}
use Rattle.ir_ast.specs.Funcs.{Function, instructions_of}
use Rattle.ir_ast.specs.Values.{Definition, Gives, argument, definition_type, definitions_of, outcome, outcome_type, value_types}
use Rattle.ir_ast.specs.Faults.GroupShape.{number_at}
use Rattle.ir_ast.specs.Faults.TypeClash.{Fits, asked}
use Rattle.base_forms.specs.DerivedMarks.{derived_marks, uses_marked}
use Rattle.base_forms.specs.Bases.{base_of, gives_by, origin, origin_by, own_base, source_of, stepped_from}
use Rattle.base_forms.specs.Inserted.{by_line, has_inserted, inserted_number, is_merged, new_number, renumbered}
use Rattle.base_forms.specs.Lines.{operand_at}
use Rattle.base_forms.specs.Based.{base_line, based, check, compared, kept_line, lines_for, negation, same_call}
use Rattle.renaming_laws.specs.Renamed.{Renaming}
use Rattle.base_laws.proofs.LineLaws.{IsReady}
use Rattle.base_laws.proofs.NumberLaws.{argument_keeps, number_alone, number_behind, renaming_of}
use Rattle.base_laws.proofs.TypeLaws.{IsTypedLine, MarksPointers, all_given, merges_pointers, type_of_given}
use Rattle.base_definite.proofs.base_paths.GivesLaws.{gives_at}
use Rattle.base_definite.proofs.base_relations.GroupLaws.{given_at, group_of, line_number, line_stands, start_at, value_at, value_is}
use Rattle.base_definite.proofs.base_relations.ValueLaws.{merged_true}
use Rattle.base_definite.proofs.BasedLaws.{ends_so}
use Rattle.base_definite.proofs.CutLaws.{results_in}
use Rattle.rewritten_sound.proofs.shape.FunctionLaws.{argument_at}
use Rattle.object_meaning.proofs.GivenLaws.{has_result}

-- ---- the last line for an instruction gives what it gives

module _ (func : Function) (marks : List Bool) (value : ℕ) (inst : Instruction) where
  abbrev TypeKept : Instruction → Type 0
  TypeKept line = outcome_type line.op line.ty ≡ outcome_type inst.op inst.ty

  last_is : (front known : List Instruction) (last line : Instruction) → known ++ line ∷ [] ≡ front ++ last ∷ [] → TypeKept line → TypeKept last
  last_is front known last line whole kept = subst TypeKept (same_from_push known front line last whole).1 kept

  last_type : (op : Op) → inst.op ≡ op → (front : List Instruction) (last : Instruction) → lines_for func marks value inst op ≡ front ++ last ∷ [] → TypeKept last
  last_type ops.Phi is front last whole = by (is_merged marks inst) whole
    where
      by : (b : Bool) → (if b then base_line func marks value inst ∷ [] else []) ++ kept_line func marks inst ∷ [] ≡ front ++ last ∷ [] → TypeKept last
      by true whole = last_is front (base_line func marks value inst ∷ []) last (kept_line func marks inst) whole refl
      by false whole = last_is front [] last (kept_line func marks inst) whole refl
  last_type ops.Select is front last whole = by (is_merged marks inst) whole
    where
      by : (b : Bool) → (if b then base_line func marks value inst ∷ [] else []) ++ kept_line func marks inst ∷ [] ≡ front ++ last ∷ [] → TypeKept last
      by true whole = last_is front (base_line func marks value inst ∷ []) last (kept_line func marks inst) whole refl
      by false whole = last_is front [] last (kept_line func marks inst) whole refl
  last_type (ops.Icmp pred) is front last whole = by (uses_marked marks inst) pred is whole
    where
      by : (b : Bool) (pred : Pred) → inst.op ≡ ops.Icmp pred → (if b then compared func marks value inst pred else kept_line func marks inst ∷ []) ≡ front ++ last ∷ [] → TypeKept last
      by true preds.Eq is whole = last_is front [] last (same_call func marks inst.result (operand_at inst 0) (operand_at inst 1)) whole (sym (ap (λ o. outcome_type o inst.ty) is))
      by true preds.Ne is whole = last_is front (same_call func marks _ (operand_at inst 0) (operand_at inst 1) ∷ []) last (negation func marks value inst) whole (sym (ap (λ o. outcome_type o inst.ty) is))
      by true pred is whole = last_is front [] last (kept_line func marks inst) whole refl
      by false pred is whole = last_is front [] last (kept_line func marks inst) whole refl
  last_type ops.Load is front last whole = last_is front (check func marks inst (operand_at inst 0) ∷ []) last (kept_line func marks inst) whole refl
  last_type ops.Store is front last whole = last_is front (check func marks inst (operand_at inst 1) ∷ []) last (kept_line func marks inst) whole refl
  last_type op is front last whole = last_is front [] last (kept_line func marks inst) whole refl

module _ (functions : ℕ → Renaming) (index : ℕ) (func : Function) (called : Bool) (is : functions index ≡ renaming_of called func) (pointers : MarksPointers func (derived_marks func))
    (ready : All (IsReady functions func) (instructions_of func.blocks)) where
  abbrev marks : List Bool
  marks = derived_marks func

  -- a line of the group of an instruction at a place of the text, behind so many results
  pub line_type : (place : ℕ) (inst : Instruction) → slice_get (instructions_of func.blocks) place ≡ Some inst → (front back : List Instruction) (line : Instruction)
      → group_of func (value_at func place) inst ≡ front ++ line ∷ back → is_some line.result ≡ true
      → slice_get (value_types (based func)) (inserted_number func (derived_marks func) (value_at func place) + results_in front) ≡ Some (outcome_type line.op line.ty)
  line_type place inst at front back line whole named =
      let in_group : slice_get (group_of func (value_at func place) inst) (length front) ≡ Some line = ap (λ (group : List Instruction). slice_get group (length front)) whole ∙ get_middle front line back in
      let within = slice_get_within (group_of func (value_at func place) inst) (length front) line in_group in
      let stands = line_stands func place inst at (length front) line in_group in
      let gives = gives_at (based func) (start_at func place + length front) line stands named in
      let number = line_number func functions index called is pointers ready place inst at (length front) (omega arith) in
      let before : take (length front) (group_of func (value_at func place) inst) ≡ front = ap (take (length front)) whole ∙ take_front_of front (line ∷ back) in
      ap (slice_get (value_types (based func))) (sym (number ∙ ap (λ (all : List Instruction). inserted_number func (derived_marks func) (value_at func place) + results_in all) before))
      ∙ type_of_given (based func) (number_at (based func) (start_at func place + length front)) (outcome line) gives

  -- what an instruction gives has its type under its new number
  given_type : (value : ℕ) (inst : Instruction) → Gives func value inst → slice_get (value_types (based func)) (new_number func (derived_marks func) value) ≡ Some (outcome_type inst.op inst.ty)
  given_type value inst gives =
      let at = given_at func value inst gives in
      let value_same : value_at func at.place ≡ value = sym (value_is func at.place) ∙ at.number in
      let end = ends_so func (derived_marks func) (value_at func at.place) inst in
      let last_named : is_some end.last.result ≡ true = ap (λ (result : Option (List ℕ)). is_some result) end.result ∙ at.named in
      let type = line_type at.place inst at.stands end.front [] end.last end.whole last_named in
      let kept = last_type func (derived_marks func) (value_at func at.place) inst inst.op refl end.front end.last end.whole in
      ap (slice_get (value_types (based func))) (sym (ap (λ n. inserted_number func (derived_marks func) n + results_in end.front) value_same ∙ by (has_inserted (derived_marks func) (outcome inst)) refl end.count))
      ∙ (type ∙ ap (λ ty. Some ty) kept)
    where
      by : (b : Bool) → has_inserted (derived_marks func) (outcome inst) ≡ b → {count : ℕ} → count ≡ (if has_inserted (derived_marks func) (outcome inst) then 1 else 0)
          → inserted_number func (derived_marks func) value + count ≡ new_number func (derived_marks func) value
      by true test counted =
          let one = counted ∙ ap (λ (t : Bool). if t then 1 else 0) test in
          let behind = number_behind func value (outcome inst) gives test in
          omega arith
      by false test counted =
          let none = counted ∙ ap (λ (t : Bool). if t then 1 else 0) test in
          let alone = number_alone func value (outcome inst) gives test in
          omega arith

  -- each value keeps its type
  pub type_kept : (value : ℕ) (ty : Ty) → slice_get (value_types func) value ≡ Some ty → slice_get (value_types (based func)) (new_number func (derived_marks func) value) ≡ Some ty
  type_kept value ty at =
      let back = map_back definition_type (definitions_of func) value ty at in
      by back.before back.stands back.is
    where
      by : (given : Definition) → slice_get (definitions_of func) value ≡ Some given → ty ≡ definition_type given → slice_get (value_types (based func)) (new_number func (derived_marks func) value) ≡ Some ty
      by (outcome inst) found same = given_type value inst found ∙ ap (λ t. Some t) (sym same)
      by (argument arg) found same =
          let arg_at = argument_at func.args (filter has_result (instructions_of func.blocks)) value arg found in
          let within = slice_get_within func.args value arg arg_at in
          let there = get_front (map argument func.args) (map outcome (filter has_result (instructions_of (based func).blocks))) value (argument arg) (get_map argument func.args value arg arg_at) in
          ap (slice_get (value_types (based func))) (argument_keeps func value within) ∙ (type_of_given (based func) value (argument arg) there ∙ ap (λ t. Some t) (sym same))

  -- ---- inserted lines

  marked_typed : (value : ℕ) (inst : Instruction) → Gives func value inst → IsTypedLine func inst
  marked_typed value inst gives =
      all_given (IsTypedLine func) func (all_from_at (IsTypedLine func) (instructions_of func.blocks) (λ place one at. (all_at (IsReady functions func) (instructions_of func.blocks) place one ready at).typed)) value inst gives

  -- the base of a derived phi or select is a pointer
  pub base_type : (value : ℕ) (inst : Instruction) → Gives func value inst → is_merged (derived_marks func) inst ≡ true
      → slice_get (value_types (based func)) (inserted_number func (derived_marks func) value) ≡ Some Ptr
  base_type value inst gives merges =
      let at = given_at func value inst gives in
      let value_same : value_at func at.place ≡ value = sym (value_is func at.place) ∙ at.number in
      let parts = and_parts (is_merge inst.op) (uses_marked (derived_marks func) inst) merges in
      let whole = merged_true func (derived_marks func) (value_at func at.place) inst inst.op refl parts.0 merges in
      let type = line_type at.place inst at.stands [] (kept_line func (derived_marks func) inst ∷ []) (base_line func (derived_marks func) (value_at func at.place) inst) whole refl in
      let zero_is : inserted_number func (derived_marks func) value + 0 ≡ inserted_number func (derived_marks func) value = omega arith in
      ap (slice_get (value_types (based func))) (sym (ap (λ n. inserted_number func (derived_marks func) n + 0) value_same ∙ zero_is))
      ∙ (type ∙ ap (λ t. Some t) (merges_pointers func (derived_marks func) pointers inst (marked_typed value inst gives) parts.1 parts.0))

  -- ---- bases

  step_pointer : (o before : Operand) → stepped_from func o ≡ Some before → Fits (value_types func) before Ptr
  step_pointer (operands.Value value) before steps = by (slice_get (definitions_of func) value.0) refl steps
    where
      gep_first : (inst : Instruction) → IsTypedLine func inst → (op : Op) → inst.op ≡ op → is_step op ≡ true → slice_get inst.operands 0 ≡ Some before → Fits (value_types func) before Ptr
      gep_first inst typed (ops.Gep elem width place) same step at =
          first_fits inst.operands (types.Int width ∷ []) (subst (λ (o : Op). AllZip (Fits (value_types func)) inst.operands (asked o inst.ty (length inst.operands))) same typed.fits) at
        where
          first_fits : (given : List Operand) (rest : List Ty) → AllZip (Fits (value_types func)) given (Ptr ∷ rest) → slice_get given 0 ≡ Some before → Fits (value_types func) before Ptr
          first_fits [] rest fits at = absurd cc
          first_fits (first ∷ given) rest fits at = let same : first ≡ before = cc in subst (λ (x : Operand). Fits (value_types func) x Ptr) same fits.0
      gep_first inst typed op same step at = absurd cc

      of_inst : (inst : Instruction) → Gives func value.0 inst → (b : Bool) → is_step inst.op ≡ b → (if b then slice_get inst.operands 0 else None) ≡ Some before → Fits (value_types func) before Ptr
      of_inst inst gives true step at = gep_first inst (marked_typed value.0 inst gives) inst.op refl step at
      of_inst inst gives false step at = absurd cc

      by : (given : Option Definition) → slice_get (definitions_of func) value.0 ≡ given → option_and_then source_of given ≡ Some before → Fits (value_types func) before Ptr
      by None none is_before = absurd cc
      by (Some (argument arg)) found is_before = absurd cc
      by (Some (outcome inst)) found is_before = of_inst inst found (is_step inst.op) refl is_before
  step_pointer (operands.Int word) before steps = absurd cc
  step_pointer operands.Null before steps = absurd cc
  step_pointer (operands.Fun called) before steps = absurd cc

  value_fits : (value : ℕ) → slice_get (value_types func) value ≡ Some Ptr
      → slice_get (value_types (based func)) (if gives_by func (derived_marks func) (is_merged (derived_marks func)) value then inserted_number func (derived_marks func) value else new_number func (derived_marks func) value) ≡ Some Ptr
  value_fits value fits = by (gives_by func (derived_marks func) (is_merged (derived_marks func)) value) refl
    where
      given_merged : (given : Option Definition) → slice_get (definitions_of func) value ≡ given → option_map_or (by_line (is_merged (derived_marks func))) given false ≡ true
          → slice_get (value_types (based func)) (inserted_number func (derived_marks func) value) ≡ Some Ptr
      given_merged None none merges = absurd cc
      given_merged (Some (argument arg)) found merges = absurd cc
      given_merged (Some (outcome inst)) found merges = base_type value inst found merges

      by : (b : Bool) → gives_by func (derived_marks func) (is_merged (derived_marks func)) value ≡ b
          → slice_get (value_types (based func)) (if b then inserted_number func (derived_marks func) value else new_number func (derived_marks func) value) ≡ Some Ptr
      by true merges = given_merged (slice_get (definitions_of func) value) refl merges
      by false other = type_kept value Ptr fits

  pointer_origin : (bound : ℕ) (o : Operand) → Fits (value_types func) o Ptr → Fits (value_types func) (origin_by (stepped_from func) bound o) Ptr
  pointer_origin zero o fits = refl
  pointer_origin (suc bound) o fits = by (stepped_from func o) refl (λ before steps. pointer_origin bound before (step_fits o before steps))
    where
      step_fits : (o before : Operand) → stepped_from func o ≡ Some before → Fits (value_types func) before Ptr
      step_fits o before steps = step_pointer o before steps

      by : (step : Option Operand) → stepped_from func o ≡ step → ((before : Operand) → stepped_from func o ≡ Some before → Fits (value_types func) (origin_by (stepped_from func) bound before) Ptr)
          → Fits (value_types func) (option_map_or (origin_by (stepped_from func) bound) step o) Ptr
      by None none further = fits
      by (Some before) steps further = further before steps

  origin_fits : (o : Operand) → Fits (value_types func) o Ptr → Fits (value_types func) (origin func o) Ptr
  origin_fits o fits = pointer_origin (suc (length (definitions_of func))) o fits

  pub base_fits : (o : Operand) → Fits (value_types func) o Ptr → Fits (value_types (based func)) (base_of func (derived_marks func) o) Ptr
  base_fits o fits = own_fits (origin func o) (origin_fits o fits)
    where
      own_fits : (o : Operand) → Fits (value_types func) o Ptr → Fits (value_types (based func)) (own_base func (derived_marks func) o) Ptr
      own_fits (operands.Value value) fits = value_fits value.0 fits
      own_fits (operands.Int word) fits = absurd (let wrong = fits.1 in cc)
      own_fits operands.Null fits = refl
      own_fits (operands.Fun called) fits = absurd cc

  pub now_fits : (o : Operand) (ty : Ty) → Fits (value_types func) o ty → Fits (value_types (based func)) (renumbered func (derived_marks func) o) ty
  now_fits (operands.Value value) ty fits = type_kept value.0 ty fits
  now_fits (operands.Int word) ty fits = fits
  now_fits operands.Null ty fits = fits
  now_fits (operands.Fun called) ty fits = fits
