-- The numbers that values have once lines with results are inserted before them.
use Rattle.std.proofs.Common.{◌≡◌, ◌==◌, ℕ, zero, suc, ◌+◌, ◌<◌, ◌≤◌, Bool, true, false, not, List, [], ◌∷◌, ◌++◌, length, map, take, refl, sym, ap, ◌∙◌, arith}
use Rattle.std.specs.Prelude.{Some, slice_get, count_by, filter}
use Rattle.std.proofs.lemmas.Option.{slice_get_within}
use Rattle.ir_ast.specs.declared.funcs.Arg.{Arg}
use Rattle.ir_ast.specs.Funcs.{Function, instructions_of}
use Rattle.ir_ast.specs.Values.{Definition, argument, definitions_of, outcome}
use Rattle.base_forms.specs.DerivedMarks.{derived_marks}
use Rattle.base_forms.specs.Inserted.{has_inserted, inserted_number, new_number}
use Rattle.renaming_laws.specs.Renamed.{IsRenaming, Renaming}
use Rattle.renaming_laws.specs.Inserted.{IsFresh}
use Rattle.base_laws.proofs.CountLaws.{before_is_fresh, count, count_is, count_next, count_next_not, count_whole, number_before, number_of, number_within, numbers_apart}
use Rattle.object_meaning.proofs.GivenLaws.{has_result, definition_count}

-- a function whose values get their new numbers; its jumps enter each block but the first
abbrev pub renaming_of : Bool → Function → Renaming
renaming_of called func = record {
  called = called;
  arguments = length func.args;
  room = length (definitions_of func);
  now_room = length (definitions_of func) + count_by (has_inserted (derived_marks func)) (definitions_of func);
  number = new_number func (derived_marks func);
  entered = λ block. not (block == 0);
}

module _ (func : Function) where
  abbrev test : Definition → Bool
  test = has_inserted (derived_marks func)

  abbrev number : ℕ → ℕ
  number = new_number func (derived_marks func)

  abbrev shift : ℕ → ℕ
  shift = inserted_number func (derived_marks func)

  pub number_as : (value : ℕ) → number value ≡ number_of test (definitions_of func) value
  number_as value = ap (λ n. value + n) (count_is test (take (suc value) (definitions_of func)))

  pub shift_as : (value : ℕ) → shift value ≡ number_before test (definitions_of func) value
  shift_as value = ap (λ n. value + n) (count_is test (take value (definitions_of func)))

  none_in_arguments : (args : List Arg) (rest : List Definition) (k : ℕ) → k ≤ length args → count test (take k (map argument args ++ rest)) ≡ 0
  none_in_arguments args rest zero le = refl
  none_in_arguments [] rest (suc k) le = absurd (omega arith)
  none_in_arguments (arg ∷ args) rest (suc k) le = none_in_arguments args rest k (omega arith)

  abbrev results : List Definition
  results = map outcome (filter has_result (instructions_of func.blocks))

  pub argument_keeps : (value : ℕ) → value < length func.args → number value ≡ value
  argument_keeps value below =
      let counted = number_as value in
      let none = none_in_arguments func.args results (suc value) (omega arith) in
      omega arith

  pub first_keeps : shift (length func.args) ≡ length func.args
  first_keeps =
      let counted = shift_as (length func.args) in
      let none = none_in_arguments func.args results (length func.args) (omega arith) in
      omega arith

  pub is_renaming : (called : Bool) → IsRenaming (renaming_of called func)
  is_renaming called = record {
    apart = λ one other below other_below same. numbers_apart test (definitions_of func) one other (sym (number_as one) ∙ (same ∙ number_as other));
    within = λ register below.
        let counted = number_as register in
        let all = count_is test (definitions_of func) in
        let within = number_within test (definitions_of func) register (length (definitions_of func)) below in
        omega arith;
    few_arguments = let all = definition_count func in omega arith;
    arguments = argument_keeps;
  }

  -- ---- at the place of a value

  module _ (value : ℕ) (given : Definition) (stands : slice_get (definitions_of func) value ≡ Some given) where
    pub number_alone : test given ≡ false → number value ≡ shift value
    number_alone fails =
        let counted = number_as value in
        let before = shift_as value in
        let next = count_next_not test (definitions_of func) value given stands fails in
        omega arith

    pub number_behind : test given ≡ true → number value ≡ shift value + 1
    number_behind passes =
        let counted = number_as value in
        let before = shift_as value in
        let next = count_next test (definitions_of func) value given stands passes in
        omega arith

    pub shift_is_fresh : (called : Bool) → test given ≡ true → IsFresh (renaming_of called func) (Some (shift value))
    shift_is_fresh called passes = λ register below same.
        before_is_fresh test (definitions_of func) value given stands passes register (sym (number_as register) ∙ (same ∙ shift_as value))

    pub shift_within : shift value < length (definitions_of func) + count_by test (definitions_of func)
    shift_within =
        let before = shift_as value in
        let all = count_is test (definitions_of func) in
        let most = count_whole test (definitions_of func) value in
        let below = slice_get_within (definitions_of func) value given stands in
        omega arith

  pub shift_next : (value : ℕ) → shift (value + 1) ≡ number value + 1
  shift_next value =
      let same : value + 1 ≡ suc value = omega arith in
      ap shift same ∙ omega arith

  take_all : (all : List Definition) → take (length all) all ≡ all
  take_all [] = refl
  take_all (x ∷ all) = ap (λ rest. x ∷ rest) (take_all all)

  pub shift_last : shift (length (definitions_of func)) ≡ length (definitions_of func) + count_by test (definitions_of func)
  shift_last = ap (λ all. length (definitions_of func) + count_by test all) (take_all (definitions_of func))
