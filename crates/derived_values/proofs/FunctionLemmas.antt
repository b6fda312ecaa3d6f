-- The derived values of a function, by what gives each of its values.
use Rattle.std.proofs.Common.{◌≡◌, ◌∙◌, ℕ, true, List, Some, slice_get, refl, ap, sym, subst}
use Rattle.std.specs.Prelude.{map}
use Rattle.std.specs.List.{Contains}
use Rattle.std.proofs.lemmas.Bool.{false≢true}
use Rattle.list_laws.proofs.Places.{get_map, map_back}
use Rattle.ir_ast.specs.declared.ops.Op.{Op}
use Rattle.ir_ast.specs.declared.ops.Op.TheVariants.{Gep, Phi, Select}
use Rattle.ir_ast.specs.Insts.{Instruction}
use Rattle.ir_ast.specs.Funcs.{Function}
use Rattle.ir_ast.specs.Values.{Definition, argument, outcome, definitions_of, Gives}
use Rattle.ir_ast.specs.Operands.{values_used}
use Rattle.ir_ast.specs.Derived.{is_step, is_merge, Derived, by_step, by_merge}
use Rattle.derived_values.specs.Givens.{Given, other, step, merge, given_by, given_of}
use Rattle.derived_values.specs.Deriveds.{UsedBy, DerivedIn, at_step, at_use}

given_step : (op : Op) (used : List ℕ) → given_by op used ≡ step → is_step op ≡ true
given_step (Gep elem index_width place) used is = refl
given_step Phi used is = absurd (let bad : merge used ≡ step = is in cc)
given_step Select used is = absurd (let bad : merge used ≡ step = is in cc)
given_step op used is = absurd (let bad : other ≡ step = is in cc)

step_given : (op : Op) (used : List ℕ) → is_step op ≡ true → given_by op used ≡ step
step_given (Gep elem index_width place) used is = refl
step_given op used is = absurd (false≢true is)

-- a phi or select, and the values that it uses
record IsMerge (op : Op) (used values : List ℕ) : Type 0 where
  pub merges : is_merge op ≡ true
  pub same : used ≡ values

given_merge : (op : Op) (used values : List ℕ) → given_by op used ≡ merge values → IsMerge op used values
given_merge Phi used values is = record { merges = refl; same = (let e : merge used ≡ merge values = is in cc) }
given_merge Select used values is = record { merges = refl; same = (let e : merge used ≡ merge values = is in cc) }
given_merge (Gep elem index_width place) used values is = absurd (let bad : step ≡ merge values = is in cc)
given_merge op used values is = absurd (let bad : other ≡ merge values = is in cc)

merge_given : (op : Op) (used : List ℕ) → is_merge op ≡ true → given_by op used ≡ merge used
merge_given Phi used is = refl
merge_given Select used is = refl
merge_given op used is = absurd (false≢true is)

module _ (func : Function) where
  step_derived : (value : ℕ) → slice_get (map given_of (definitions_of func)) value ≡ Some step → Derived func value
  step_derived value at = let m = map_back given_of (definitions_of func) value step at in by m.before m.stands m.is
    where
      by : (one : Definition) → slice_get (definitions_of func) value ≡ Some one → step ≡ given_of one → Derived func value
      by (argument arg) stands is = absurd (let bad : step ≡ other = is in cc)
      by (outcome inst) stands is = by_step value inst stands (given_step inst.op (values_used inst) (sym is))

  use_derived : (value user : ℕ) → UsedBy (map given_of (definitions_of func)) value user → Derived func value → Derived func user
  use_derived value user used derived =
      let m = map_back given_of (definitions_of func) user (merge used.values) used.stands in by m.before m.stands m.is
    where
      by : (one : Definition) → slice_get (definitions_of func) user ≡ Some one → merge used.values ≡ given_of one → Derived func user
      by (argument arg) stands is = absurd (let bad : merge used.values ≡ other = is in cc)
      by (outcome inst) stands is =
          let m = given_merge inst.op (values_used inst) used.values (sym is) in
          by_merge user value inst stands m.merges (subst (λ (vs : List ℕ). Contains vs value) (sym m.same) used.used) derived

  pub in_derived : (value : ℕ) → DerivedIn (map given_of (definitions_of func)) value → Derived func value
  in_derived _ (at_step value at) = step_derived value at
  in_derived _ (at_use value user used derived) = use_derived value user used (in_derived value derived)

  gives_at : (value : ℕ) (inst : Instruction) → Gives func value inst
      → slice_get (map given_of (definitions_of func)) value ≡ Some (given_by inst.op (values_used inst))
  gives_at value inst gives = get_map given_of (definitions_of func) value (outcome inst) gives

  pub derived_in : (value : ℕ) → Derived func value → DerivedIn (map given_of (definitions_of func)) value
  derived_in _ (by_step value inst gives step_is) =
      at_step value (gives_at value inst gives ∙ ap (λ (g : Given). Some g) (step_given inst.op (values_used inst) step_is))
  derived_in _ (by_merge value operand inst gives merge_is used derived) =
      at_use operand value (record {
        values = values_used inst;
        stands = gives_at value inst gives ∙ ap (λ (g : Given). Some g) (merge_given inst.op (values_used inst) merge_is);
        used = used;
      }) (derived_in operand derived)
