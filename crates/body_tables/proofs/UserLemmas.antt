-- The marks of the derived values, and what leaves.
use Rattle.std.proofs.Common.{◌≡◌, ◌∙◌, ℕ, zero, suc, Bool, true, false, cond, List, [], ◌∷◌, Option, Some, slice_get, is_some, refl, ap, sym, subst, inl, inr}
use Rattle.std.specs.Prelude.{map, IsTrue, ◌↔◌}
use Rattle.std.specs.List.{Contains, filter, list_any}
use Rattle.std.proofs.lemmas.Bool.{false≢true}
use Rattle.std.proofs.lemmas.List.Elements.{Contains-append_cases}
use Rattle.std.proofs.lemmas.Option.{none-some, same_Some}
use Rattle.list_laws.proofs.Tests.{any_contained, contained_any}
use Rattle.list_laws.proofs.Contents.{contains_get, contains_cons, contains_image, contains_none, contains_first, contains_later, get_contained, all_at, all_contained}
use Rattle.ir_ast.specs.Faults.DerivedEscapes.{values_leaving, KeepsDerived}
use Rattle.ir_ast.specs.Insts.{Instruction}
use Rattle.ir_ast.specs.Funcs.{Function, instructions_of}
use Rattle.ir_ast.specs.Values.{Definition, argument, outcome, definitions_of, Gives}
use Rattle.ir_ast.specs.Derived.{is_step, Derived, by_step, by_merge}
use Rattle.derived_values.specs.Givens.{Given, given_of}
use Rattle.derived_values.specs.Deriveds.{AreMarks}
use Rattle.derived_values.proofs.FunctionLemmas.{in_derived, derived_in}
use Rattle.body_tables.specs.Bodies.{inst_of, any_step}
use Rattle.body_tables.specs.Derivations.{giver_of, MarksDerived}
use Rattle.ir_ast.proofs.OpLaws.{mark_got, got_mark}
use Rattle.ir_ast.specs.Lists.{has_mark}

-- ---- the marks are those of the derived values

giver_given : (one : Definition) → giver_of (inst_of one) ≡ given_of one
giver_given (argument arg) = refl
giver_given (outcome inst) = refl

givers_given : (all : List Definition) → map giver_of (map inst_of all) ≡ map given_of all
givers_given [] = refl
givers_given (one ∷ all) = rw (giver_given one) (ap (λ (rest : List Given). given_of one ∷ rest) (givers_given all))

pub marks_derived : (func : Function) (marks : List Bool) → AreMarks (map giver_of (map inst_of (definitions_of func))) marks → MarksDerived func marks
marks_derived func marks found =
    let are : AreMarks (map given_of (definitions_of func)) marks
    = subst (λ (gs : List Given). AreMarks gs marks) (givers_given (definitions_of func)) found in
    record {
      sound = λ value marked. in_derived func value (are.sound value marked);
      complete = λ value derived. are.complete value (derived_in func value derived);
    }

-- ---- what leaves

pub escapes-iff : (func : Function) (marks : List Bool) (inst : Instruction) (lets : Bool) → MarksDerived func marks
    → lets ≡ list_any (has_mark marks) (values_leaving inst) → (IsTrue lets ↔ ¬ KeepsDerived func inst)
escapes-iff func marks inst lets are is = (
  (λ t keeps. let f = any_contained (has_mark marks) (values_leaving inst) (sym is ∙ t) in
      let at = get_contained (values_leaving inst) f.0 f.1 in
      all_at (λ (value : ℕ). ¬ Derived func value) (values_leaving inst) at.0 f.0 keeps at.1
      (are.sound f.0 (mark_got marks f.0 f.2))),
  (λ n. is ∙ by (list_any (has_mark marks) (values_leaving inst)) refl n),
)
  where
    by : (b : Bool) → list_any (has_mark marks) (values_leaving inst) ≡ b → (¬ KeepsDerived func inst) → b ≡ true
    by true e n = refl
    by false e n = absurd (n (all_contained (λ (value : ℕ). ¬ Derived func value) (values_leaving inst)
        (λ value there derived. false≢true (sym e ∙ contained_any (has_mark marks) (values_leaving inst) value there
        (got_mark marks value (are.complete value derived))))))

-- ---- without a step

contains-filter : {X : Type 0} (p : X → Bool) (xs : List X) (x : X) → Contains (filter p xs) x → Contains xs x
contains-filter p [] x there = absurd (contains_none x there)
contains-filter {X} p (y ∷ ys) x there = by (p y) (contains-filter p ys x) there
  where
    by : (b : Bool) → (Contains (filter p ys) x → Contains ys x) → Contains (cond b (y ∷ filter p ys) (filter p ys)) x → Contains (y ∷ ys) x
    by true more here = elim (contains_cons y x (filter p ys) here) [
      | inl same ↦ subst (λ (z : X). Contains (y ∷ ys) z) same (contains_first y ys)
      | inr later ↦ contains_later y x ys (more later)
    ]
    by false more here = contains_later y x ys (more here)

gives-inside : (func : Function) (value : ℕ) (inst : Instruction) → Gives func value inst → Contains (instructions_of func.blocks) inst
gives-inside func value inst gives =
    let insts = instructions_of func.blocks in
    let results = filter (λ (one : Instruction). is_some one.result) insts in
    elim (Contains-append_cases (map argument func.args) (map outcome results) (outcome inst)
    (contains_get (definitions_of func) value (outcome inst) gives)) [
      | inl arg ↦ (let i = contains_image argument func.args (outcome inst) arg in
          absurd (let bad : argument i.of ≡ outcome inst = i.is in cc))
      | inr result ↦ (let i = contains_image outcome results (outcome inst) result in
          let same : i.of ≡ inst = (let e : outcome i.of ≡ outcome inst = i.is in cc) in
          subst (λ (one : Instruction). Contains insts one) same (contains-filter (λ (one : Instruction). is_some one.result) insts i.of i.inside))
    ]

none_derived : (func : Function) → any_step (instructions_of func.blocks) ≡ false → (value : ℕ) → Derived func value → ⊥
none_derived func none _ (by_step value inst gives step) =
    false≢true (sym none ∙ contained_any (λ (one : Instruction). is_step one.op) (instructions_of func.blocks) inst (gives-inside func value inst gives) step)
none_derived func none _ (by_merge value operand inst gives merge used derived) = none_derived func none operand derived

-- without a step each instruction keeps what is derived
pub keeps-without_step : (func : Function) (inst : Instruction) → any_step (instructions_of func.blocks) ≡ false → KeepsDerived func inst
keeps-without_step func inst none =
    all_contained (λ (value : ℕ). ¬ Derived func value) (values_leaving inst) (λ value there derived. none_derived func none value derived)
