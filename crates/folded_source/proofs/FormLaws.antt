-- A line over other operands of the same types, where an operand that is no value stays, is a line with types.
use Rattle.std.proofs.Common.{◌≡◌, ℕ, suc, ◌+◌, ◌<◌, Bool, true, false, ◌&&◌, List, [], ◌∷◌, length, map, drop, refl, sym, ap, subst, ◌∙◌, arith}
use Rattle.std.specs.Prelude.{Some, None, slice_get}
use Rattle.std.specs.List.{AllZip, Contains, list_all}
use Rattle.std.proofs.lemmas.Bool.{and_from, and_parts, false≢true}
use Rattle.std.proofs.lemmas.List.{drop-map, length-map}
use Rattle.list_laws.proofs.Contents.{all_at, all_from_at, contains_get}
use Rattle.list_laws.proofs.Places.{get_front, get_map, get_past, map_back}
use Rattle.ir_ast.specs.declared.types.Ty.{Ty}
use Rattle.ir_ast.specs.declared.ops.Callee.{Callee}
use Rattle.ir_ast.specs.declared.ops.Callee.TheVariants as callees
use Rattle.ir_ast.specs.declared.ops.Op.{Op}
use Rattle.ir_ast.specs.declared.ops.Op.TheVariants as ops
use Rattle.ir_ast.specs.declared.ops.Operand.{Operand}
use Rattle.ir_ast.specs.declared.ops.Operand.TheVariants.{Fun, Int, Null, Value}
use Rattle.ir_ast.specs.Cells.{kind_of}
use Rattle.ir_ast.specs.Insts.{Instruction}
use Rattle.ir_ast.specs.Lines.{Arguments, Has, IsCall, IsLine, LineOf, is_argument, is_bundle, is_rewritten}
use Rattle.ir_ast.specs.Lists.{Distinct}
use Rattle.ir_ast.specs.Operands.{is_literal, is_value, operands_of, value_in}
use Rattle.ir_ast.specs.Scope.{Scope}
use Rattle.ir_ast.specs.Types.{is_first_class}
use Rattle.ir_ast.specs.Faults.TypeClash.{Fits, HasField, IsCallOf, IsTyped, RuleOf, TakesOperands, asked}

-- the other operand has the type, and is this one where this one is no value
pub record Carries (before now : List Ty) (one other : Operand) : Type 0 where
  pub fits : (ty : Ty) → Fits before one ty → Fits now other ty
  pub plain : value_in one ≡ None → other ≡ one
  pub value : is_value one ≡ true → is_value other ≡ true

-- the line over the images of its operands
abbrev pub under : (Operand → Operand) → Instruction → Instruction
under f inst = record inst {
  operands = map f inst.operands;
  bundle = map (λ entry. (entry.0, f entry.1)) inst.bundle;
}

module _ (before now : List Ty) (f : Operand → Operand) where
  abbrev pub Each : List Operand → Type 0
  Each all = (place : ℕ) (one : Operand) → slice_get all place ≡ Some one → Carries before now one (f one)

  later : (first : Operand) (rest : List Operand) → Each (first ∷ rest) → Each rest
  later first rest each = λ place one at. each (suc place) one at

  all_values : (all : List Operand) → Each all → list_all is_value all ≡ true → list_all is_value (map f all) ≡ true
  all_values [] each are = refl
  all_values (one ∷ all) each are =
      let parts = and_parts (is_value one) (list_all is_value all) are in
      and_from (is_value (f one)) (list_all is_value (map f all)) ((each 0 one refl).value parts.0) (all_values all (later one all each) parts.1)

  literal_plain : (one : Operand) → is_literal one ≡ true → value_in one ≡ None
  literal_plain (Int number) is = refl
  literal_plain (Value id) is = absurd (false≢true is)
  literal_plain Null is = refl
  literal_plain (Fun called) is = refl

  literals_same : (all : List Operand) → Each all → list_all is_literal all ≡ true → map f all ≡ all
  literals_same [] each are = refl
  literals_same (one ∷ all) each are =
      let parts = and_parts (is_literal one) (list_all is_literal all) are in
      ap (λ (o : Operand). o ∷ map f all) ((each 0 one refl).plain (literal_plain one parts.0)) ∙ ap (λ (os : List Operand). one ∷ os) (literals_same all (later one all each) parts.1)

  -- ---- arguments

  value_passed : (callee : Callee) (one : Operand) (ty : Ty) → is_value one ≡ true → is_first_class ty ≡ true → is_argument callee one ty ≡ true
  value_passed callees.TaskStart (Value id) ty value class = class
  value_passed callees.TaskStart (Int number) ty value class = class
  value_passed callees.TaskStart Null ty value class = class
  value_passed callees.TaskStart (Fun called) ty value class = absurd (false≢true value)
  value_passed (callees.Fun func) one ty value class = and_from (is_value one) (is_first_class ty) value class
  value_passed (callees.New layout) one ty value class = and_from (is_value one) (is_first_class ty) value class
  value_passed callees.Print one ty value class = and_from (is_value one) (is_first_class ty) value class
  value_passed callees.Read one ty value class = and_from (is_value one) (is_first_class ty) value class
  value_passed callees.Poll one ty value class = and_from (is_value one) (is_first_class ty) value class
  value_passed callees.Check one ty value class = and_from (is_value one) (is_first_class ty) value class
  value_passed callees.Same one ty value class = and_from (is_value one) (is_first_class ty) value class

  value_argument : (callee : Callee) (one : Operand) (ty : Ty) → Carries before now one (f one) → (is_value one && is_first_class ty) ≡ true → is_argument callee (f one) ty ≡ true
  value_argument callee one ty carries is =
      let parts = and_parts (is_value one) (is_first_class ty) is in value_passed callee (f one) ty (carries.value parts.0) parts.1

  argument_there : (callee : Callee) (one : Operand) (ty : Ty) → Carries before now one (f one) → is_argument callee one ty ≡ true → is_argument callee (f one) ty ≡ true
  argument_there callees.TaskStart (Fun called) ty carries is = subst (λ (o : Operand). is_argument callees.TaskStart o ty ≡ true) (sym (carries.plain refl)) is
  argument_there callees.TaskStart (Value id) ty carries is = value_argument callees.TaskStart (Value id) ty carries is
  argument_there callees.TaskStart (Int number) ty carries is = value_argument callees.TaskStart (Int number) ty carries is
  argument_there callees.TaskStart Null ty carries is = value_argument callees.TaskStart Null ty carries is
  argument_there (callees.Fun func) one ty carries is = value_argument (callees.Fun func) one ty carries is
  argument_there (callees.New layout) one ty carries is = value_argument (callees.New layout) one ty carries is
  argument_there callees.Print one ty carries is = value_argument callees.Print one ty carries is
  argument_there callees.Read one ty carries is = value_argument callees.Read one ty carries is
  argument_there callees.Poll one ty carries is = value_argument callees.Poll one ty carries is
  argument_there callees.Check one ty carries is = value_argument callees.Check one ty carries is
  argument_there callees.Same one ty carries is = value_argument callees.Same one ty carries is

  arguments_there : (callee : Callee) (all : List Operand) (types : List Ty) → Each all → Arguments callee all types → Arguments callee (map f all) types
  arguments_there callee [] [] each are = are
  arguments_there callee [] (ty ∷ types) each are = absurd are
  arguments_there callee (one ∷ all) [] each are = absurd are
  arguments_there callee (one ∷ all) (ty ∷ types) each are =
      (argument_there callee one ty (each 0 one refl) are.0, arguments_there callee all types (later one all each) are.1)

  all_fit : (all : List Operand) (types : List Ty) → Each all → AllZip (Fits before) all types → AllZip (Fits now) (map f all) types
  all_fit [] [] each fits = fits
  all_fit [] (ty ∷ types) each fits = absurd fits
  all_fit (one ∷ all) [] each fits = absurd fits
  all_fit (one ∷ all) (ty ∷ types) each fits = ((each 0 one refl).fits ty fits.0, all_fit all types (later one all each) fits.1)

  -- ---- a line whose operands are carried

  module _ (inst : Instruction) (each : (one : Operand) → Contains (operands_of inst) one → Carries before now one (f one)) where
    abbrev second : Ty × Operand → Operand
    second entry = entry.1

    own_each : Each inst.operands
    own_each = λ place one at. each one (contains_get (operands_of inst) place one (get_front inst.operands (map second inst.bundle) place one at))

    rest_each : Each (drop 1 inst.operands)
    rest_each = drop_each inst.operands own_each
      where
        drop_each : (all : List Operand) → Each all → Each (drop 1 all)
        drop_each [] each_here = each_here
        drop_each (first ∷ all) each_here = later first all each_here

    entry_each : (place : ℕ) (entry : Ty × Operand) → slice_get inst.bundle place ≡ Some entry → Carries before now entry.1 (f entry.1)
    entry_each place entry at =
        each entry.1 (contains_get (operands_of inst) (length inst.operands + place) entry.1 (get_past inst.operands (map second inst.bundle) place ∙ get_map second inst.bundle place entry at))

    abbrev new : Instruction
    new = under f inst

    has_there : (named : Bool) (class : Ty → Bool) (count labels : ℕ) → Has named class count labels inst → Has named class count labels new
    has_there named class count labels has = record {
      result = has.result;
      type = has.type;
      operand_count = length-map inst.operands f ∙ has.operand_count;
      values = all_values inst.operands own_each has.values;
      label_count = has.label_count;
      no_bundle = ap (map (λ (entry : Ty × Operand). (let e : Ty × Operand = (entry.0, f entry.1) in e))) has.no_bundle;
    }

    as_many : (named : Bool) (class : Ty → Bool) → Has named class (length inst.operands) (length inst.operands) inst → Has named class (length new.operands) (length new.operands) new
    as_many named class has = subst (λ n. Has named class n n new) (sym (length-map inst.operands f)) (has_there named class (length inst.operands) (length inst.operands) has)

    bundle_there : (bundle : List (Ty × Operand)) → ((place : ℕ) (entry : Ty × Operand) → slice_get bundle place ≡ Some entry → Carries before now entry.1 (f entry.1))
        → is_bundle bundle ≡ true → is_bundle (map (λ entry. (entry.0, f entry.1)) bundle) ≡ true
    bundle_there [] here is = refl
    bundle_there (entry ∷ bundle) here is =
        let parts = and_parts (is_first_class entry.0 && is_value entry.1) (is_bundle bundle) is in
        let own = and_parts (is_first_class entry.0) (is_value entry.1) parts.0 in
        and_from (is_first_class entry.0 && is_value (f entry.1)) (is_bundle (map (λ entry. (entry.0, f entry.1)) bundle))
        (and_from (is_first_class entry.0) (is_value (f entry.1)) own.0 ((here 0 entry refl).value own.1)) (bundle_there bundle (λ place one at. here (suc place) one at) parts.1)

    call_there : (callee : Callee) (types : List Ty) → IsCall callee types inst → IsCall callee types new
    call_there callee types call = record {
      result = call.result;
      type = call.type;
      arguments = arguments_there callee inst.operands types own_each call.arguments;
      no_labels = call.no_labels;
      bundle = bundle_there inst.bundle entry_each call.bundle;
      leaf = λ is. ap (map (λ (entry : Ty × Operand). (let e : Ty × Operand = (entry.0, f entry.1) in e))) (call.leaf is);
    }

    some_there : 0 < length inst.operands → 0 < length new.operands
    some_there some = let long = length-map inst.operands f in omega (arith, long, some)

    cases_there : list_all is_literal (drop 1 inst.operands) ≡ true → drop 1 new.operands ≡ drop 1 inst.operands
    cases_there literals = drop-map f 1 inst.operands ∙ literals_same (drop 1 inst.operands) rest_each literals

    line_there : (op : Op) → is_rewritten op ≡ false → LineOf op inst → LineOf op new
    line_there ops.Add source line = has_there _ _ _ _ line
    line_there ops.Sub source line = has_there _ _ _ _ line
    line_there ops.Mul source line = has_there _ _ _ _ line
    line_there ops.Udiv source line = has_there _ _ _ _ line
    line_there ops.Sdiv source line = has_there _ _ _ _ line
    line_there ops.Urem source line = has_there _ _ _ _ line
    line_there ops.Srem source line = has_there _ _ _ _ line
    line_there ops.And source line = has_there _ _ _ _ line
    line_there ops.Or source line = has_there _ _ _ _ line
    line_there ops.Xor source line = has_there _ _ _ _ line
    line_there ops.Shl source line = has_there _ _ _ _ line
    line_there ops.Lshr source line = has_there _ _ _ _ line
    line_there ops.Ashr source line = has_there _ _ _ _ line
    line_there (ops.Icmp pred) source line = has_there _ _ _ _ line
    line_there (ops.Trunc width) source line = has_there _ _ _ _ line
    line_there (ops.Zext width) source line = has_there _ _ _ _ line
    line_there (ops.Sext width) source line = has_there _ _ _ _ line
    line_there ops.Select source line = has_there _ _ _ _ line
    line_there ops.Phi source line = (as_many _ _ line.0, some_there line.1)
    line_there (ops.Gep elem index_width place) source line = (has_there _ _ _ _ line.0, line.1)
    line_there ops.Load source line = has_there _ _ _ _ line
    line_there ops.Store source line = has_there _ _ _ _ line
    line_there (ops.Call callee types) source line = call_there callee types line
    line_there (ops.Statepoint id callee types) source line = absurd (false≢true (sym source))
    line_there ops.GcResult source line = absurd (false≢true (sym source))
    line_there ops.GcRelocate source line = absurd (false≢true (sym source))
    line_there ops.Br source line = has_there _ _ _ _ line
    line_there ops.CondBr source line = has_there _ _ _ _ line
    line_there ops.Switch source line = (as_many _ _ line.0, some_there line.1, ap (list_all is_literal) (cases_there line.2) ∙ line.2)
    line_there ops.Ret source line = has_there _ _ _ _ line
    line_there ops.Unreachable source line = has_there _ _ _ _ line

    pub line_under : is_rewritten inst.op ≡ false → IsLine inst → IsLine new
    line_under source line = line_there inst.op source line

    -- ---- types

    module _ (scope after : Scope) (values : scope.values ≡ before) (new_values : after.values ≡ now) (answer : after.answer ≡ scope.answer)
        (called : (callee : Callee) → after.called callee ≡ scope.called callee) (fields : after.fields ≡ scope.fields) where
      -- an operand that is no value, at its place
      plain_at : (place : ℕ) (one : Operand) → value_in one ≡ None → slice_get inst.operands place ≡ Some one → slice_get new.operands place ≡ Some one
      plain_at place one none at = get_map f inst.operands place one at ∙ ap (λ (o : Operand). Some o) ((own_each place one at).plain none)

      takes_there : (callee : Callee) → TakesOperands scope callee inst.operands → TakesOperands after callee new.operands
      takes_there callees.TaskStart takes = (takes.0, plain_at 0 (Fun takes.0) refl takes.1, called (callees.Fun takes.0) ∙ takes.2)
      takes_there callees.Check takes = (takes.0, plain_at 2 (Int (kind_of takes.0)) refl takes.1)
      takes_there callee takes = tt

      call_of_there : (callee : Callee) (types : List Ty) → IsCallOf scope callee types inst → IsCallOf after callee types new
      call_of_there callee types call = record { signature = called callee ∙ call.signature; operands = takes_there callee call.operands }

      rule_there : (op : Op) → is_rewritten op ≡ false → LineOf op inst → RuleOf scope op inst → RuleOf after op new
      rule_there (ops.Trunc width) source line rule = rule
      rule_there (ops.Zext width) source line rule = rule
      rule_there (ops.Sext width) source line rule = rule
      rule_there (ops.Gep elem index_width place) source line rule = subst (λ (counts : List ℕ). HasField counts elem place) (sym fields) rule
      rule_there ops.Load source line rule = rule
      rule_there ops.Store source line rule = rule
      rule_there (ops.Call callee types) source line rule = call_of_there callee types rule
      rule_there (ops.Statepoint id callee types) source line rule = absurd (false≢true (sym source))
      rule_there ops.Switch source line rule = subst Distinct (sym (cases_there line.2)) rule
      rule_there ops.Ret source line rule = rule ∙ sym answer
      rule_there op source line rule = tt

      pub typed_under : is_rewritten inst.op ≡ false → IsLine inst → IsTyped scope inst → IsTyped after new
      typed_under source line typed = record {
        operands =
            subst (λ (types : List Ty). AllZip (Fits types) new.operands (asked inst.op inst.ty (length new.operands))) (sym new_values)
            (subst (λ n. AllZip (Fits now) new.operands (asked inst.op inst.ty n)) (sym (length-map inst.operands f))
            (all_fit inst.operands (asked inst.op inst.ty (length inst.operands)) own_each
            (subst (λ (types : List Ty). AllZip (Fits types) inst.operands (asked inst.op inst.ty (length inst.operands))) values typed.operands)));
        bundle = all_from_at (λ (entry : Ty × Operand). Fits after.values entry.1 entry.0) new.bundle (λ place entry at.
            let old = map_back (λ (one : Ty × Operand). (let e : Ty × Operand = (one.0, f one.1) in e)) inst.bundle place entry at in
            subst (λ (types : List Ty). Fits types entry.1 entry.0) (sym new_values)
            (subst (λ (one : Ty × Operand). Fits now one.1 one.0) (sym old.is)
            ((entry_each place old.before old.stands).fits (old.before).0
            (subst (λ (types : List Ty). Fits types (old.before).1 (old.before).0) values
            (all_at (λ (one : Ty × Operand). Fits scope.values one.1 one.0) inst.bundle place old.before typed.bundle old.stands)))));
        rule = rule_there inst.op source line typed.rule;
      }
