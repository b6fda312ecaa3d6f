-- A line over operands of the same kinds and types is as well formed as it was.
use Rattle.std.proofs.Common.{◌≡◌, ℕ, zero, suc, ◌<◌, Bool, true, false, not, ◌&&◌, if◌then◌else◌, List, [], ◌∷◌, length, take, drop, refl, sym, ap, subst, ◌∙◌, arith}
use Rattle.std.specs.Prelude.{Some, slice_get}
use Rattle.std.specs.List.{All, AllZip, list_all}
use Rattle.std.proofs.lemmas.Bool.{false≢true}
use Rattle.std.proofs.lemmas.List.Elements.{All-cons, All-nil, All-head, All-tail}
use Rattle.std.proofs.lemmas.Slice.Zip.{AllZip-long}
use Rattle.ir_ast.specs.declared.types.Ty.{Ty}
use Rattle.ir_ast.specs.declared.ops.Callee.{Callee}
use Rattle.ir_ast.specs.declared.ops.Callee.TheVariants as callees
use Rattle.ir_ast.specs.declared.ops.Op.{Op}
use Rattle.ir_ast.specs.declared.ops.Op.TheVariants as ops
use Rattle.ir_ast.specs.declared.ops.Operand.{Operand}
use Rattle.ir_ast.specs.declared.ops.Operand.TheVariants as operands
use Rattle.ir_ast.specs.Cells.{kind_of}
use Rattle.ir_ast.specs.Insts.{Instruction}
use Rattle.ir_ast.specs.Lists.{Distinct}
use Rattle.ir_ast.specs.Types.{is_answer, is_first_class, is_void}
use Rattle.ir_ast.specs.Lines.{Arguments, Has, IsCall, IsLine, IsStatepoint, LineOf, StartsWithToken, is_argument, is_bundle}
use Rattle.ir_ast.specs.Operands.{is_literal, is_value}
use Rattle.ir_ast.specs.Scope.{Scope}
use Rattle.ir_ast.specs.Faults.TypeClash.{Fits, HasField, IsCallOf, IsCellType, IsNarrower, IsTyped, IsWider, RuleOf, TakesOperands, asked}
use Rattle.rewritten_sound.specs.WellFormed.{Carries, CarriesEntry, LineCarries, SeesAlike}

module _ (before now : List Ty) where
  -- ---- operands

  same_value : (o other : Operand) → Carries before now o other → is_value other ≡ is_value o
  same_value (operands.Value value) other carries = ap is_value carries.1
  same_value (operands.Int word) other carries = ap is_value carries
  same_value operands.Null other carries = ap is_value carries
  same_value (operands.Fun called) other carries = ap is_value carries

  same_literal : (o other : Operand) → Carries before now o other → is_literal other ≡ is_literal o
  same_literal (operands.Value value) other carries = ap is_literal carries.1
  same_literal (operands.Int word) other carries = ap is_literal carries
  same_literal operands.Null other carries = ap is_literal carries
  same_literal (operands.Fun called) other carries = ap is_literal carries

  all_same : (test : Operand → Bool) → ((o other : Operand) → Carries before now o other → test other ≡ test o)
      → (given others : List Operand) → AllZip (Carries before now) given others → list_all test others ≡ list_all test given
  all_same test each [] [] carries = refl
  all_same test each [] (other ∷ others) carries = absurd carries
  all_same test each (o ∷ given) [] carries = absurd carries
  all_same test each (o ∷ given) (other ∷ others) carries =
      ap (λ t. t && list_all test others) (each o other carries.0) ∙ ap (λ t. test o && t) (all_same test each given others carries.1)

  pub carried_drop : (count : ℕ) (given others : List Operand) → AllZip (Carries before now) given others → AllZip (Carries before now) (drop count given) (drop count others)
  carried_drop zero given others carries = carries
  carried_drop (suc count) [] [] carries = tt
  carried_drop (suc count) [] (other ∷ others) carries = absurd carries
  carried_drop (suc count) (o ∷ given) [] carries = absurd carries
  carried_drop (suc count) (o ∷ given) (other ∷ others) carries = carried_drop count given others carries.1

  pub carried_take : (count : ℕ) (given others : List Operand) → AllZip (Carries before now) given others → AllZip (Carries before now) (take count given) (take count others)
  carried_take zero given others carries = tt
  carried_take (suc count) [] [] carries = tt
  carried_take (suc count) [] (other ∷ others) carries = absurd carries
  carried_take (suc count) (o ∷ given) [] carries = absurd carries
  carried_take (suc count) (o ∷ given) (other ∷ others) carries = (carries.0, carried_take count given others carries.1)

  -- an operand that is no value stays in its place
  carried_at : (k : ℕ) (given others : List Operand) (o : Operand) → AllZip (Carries before now) given others → slice_get given k ≡ Some o
      → (other : Operand) × (slice_get others k ≡ Some other) × Carries before now o other
  carried_at k [] others o carries at = absurd cc
  carried_at k (first ∷ given) [] o carries at = absurd carries
  carried_at zero (first ∷ given) (other ∷ others) o carries at =
      let same : first ≡ o = cc in (other, refl, subst (λ (x : Operand). Carries before now x other) same carries.0)
  carried_at (suc k) (first ∷ given) (other ∷ others) o carries at = carried_at k given others o carries.1 at

  same_literals : (given others : List Operand) → AllZip (Carries before now) given others → list_all is_literal given ≡ true → others ≡ given
  same_literals [] [] carries all = refl
  same_literals [] (other ∷ others) carries all = absurd carries
  same_literals (o ∷ given) [] carries all = absurd carries
  same_literals (operands.Int word ∷ given) (other ∷ others) carries all =
      ap (λ (x : Operand). x ∷ others) carries.0 ∙ ap (λ (xs : List Operand). operands.Int word ∷ xs) (same_literals given others carries.1 all)
  same_literals (operands.Value value ∷ given) (other ∷ others) carries all = absurd (false≢true all)
  same_literals (operands.Null ∷ given) (other ∷ others) carries all = absurd (false≢true all)
  same_literals (operands.Fun called ∷ given) (other ∷ others) carries all = absurd (false≢true all)

  -- ---- bundles

  bundle_same : (given others : List (Ty × Operand)) → AllZip (CarriesEntry before now) given others → is_bundle others ≡ is_bundle given
  bundle_same [] [] carries = refl
  bundle_same [] (other ∷ others) carries = absurd carries
  bundle_same (entry ∷ given) [] carries = absurd carries
  bundle_same (entry ∷ given) (other ∷ others) carries =
      ap (λ ty. (is_first_class ty && is_value other.1) && is_bundle others) (carries.0).0
      ∙ (ap (λ t. (is_first_class entry.0 && t) && is_bundle others) (same_value entry.1 other.1 (carries.0).1)
      ∙ ap (λ t. (is_first_class entry.0 && is_value entry.1) && t) (bundle_same given others carries.1))

  pub bundle_empty : (given others : List (Ty × Operand)) → AllZip (CarriesEntry before now) given others → given ≡ [] → others ≡ []
  bundle_empty [] [] carries none = refl
  bundle_empty [] (other ∷ others) carries none = absurd carries
  bundle_empty (entry ∷ given) others carries none = absurd cc

  -- ---- forms

  module _ (inst other : Instruction) (carries : LineCarries before now inst other) where
    has_carried : (named : Bool) (class : Ty → Bool) (count labels : ℕ) → Has named class count labels inst → Has named class count labels other
    has_carried named class count labels has = record {
      result = carries.named ∙ has.result;
      type = ap class carries.ty ∙ has.type;
      operand_count = AllZip-long (Carries before now) inst.operands other.operands carries.operands ∙ has.operand_count;
      values = all_same is_value same_value inst.operands other.operands carries.operands ∙ has.values;
      label_count = ap length carries.labels ∙ has.label_count;
      no_bundle = bundle_empty inst.bundle other.bundle carries.bundle has.no_bundle;
    }

    many : length other.operands ≡ length inst.operands
    many = AllZip-long (Carries before now) inst.operands other.operands carries.operands

    has_as_many : (named : Bool) (class : Ty → Bool) → Has named class (length inst.operands) (length inst.operands) inst → Has named class (length other.operands) (length other.operands) other
    has_as_many named class has =
        subst (λ n. Has named class n n other) (sym many) (has_carried named class (length inst.operands) (length inst.operands) has)

    some_carried : 0 < length inst.operands → 0 < length other.operands
    some_carried some = let same = many in omega (arith, same, some)

    argument_carried : (callee : Callee) (o to : Operand) (ty : Ty) → Carries before now o to → is_argument callee o ty ≡ true → is_argument callee to ty ≡ true
    argument_carried callees.TaskStart (operands.Fun called) to ty carried is = subst (λ (x : Operand). is_argument callees.TaskStart x ty ≡ true) (sym carried) is
    argument_carried callees.TaskStart (operands.Int word) to ty carried is = subst (λ (x : Operand). is_argument callees.TaskStart x ty ≡ true) (sym carried) is
    argument_carried callees.TaskStart operands.Null to ty carried is = subst (λ (x : Operand). is_argument callees.TaskStart x ty ≡ true) (sym carried) is
    argument_carried callees.TaskStart (operands.Value value) to ty carried is = subst (λ (x : Operand). is_argument callees.TaskStart x ty ≡ true) (sym carried.1) is
    argument_carried (callees.Fun func) o to ty carried is = ap (λ t. t && is_first_class ty) (same_value o to carried) ∙ is
    argument_carried (callees.New layout) o to ty carried is = ap (λ t. t && is_first_class ty) (same_value o to carried) ∙ is
    argument_carried callees.Print o to ty carried is = ap (λ t. t && is_first_class ty) (same_value o to carried) ∙ is
    argument_carried callees.Read o to ty carried is = ap (λ t. t && is_first_class ty) (same_value o to carried) ∙ is
    argument_carried callees.Poll o to ty carried is = ap (λ t. t && is_first_class ty) (same_value o to carried) ∙ is
    argument_carried callees.Check o to ty carried is = ap (λ t. t && is_first_class ty) (same_value o to carried) ∙ is
    argument_carried callees.Same o to ty carried is = ap (λ t. t && is_first_class ty) (same_value o to carried) ∙ is

    pub arguments_carried : (callee : Callee) (given others : List Operand) (types : List Ty) → AllZip (Carries before now) given others → Arguments callee given types → Arguments callee others types
    arguments_carried callee [] [] types carried are = are
    arguments_carried callee [] (to ∷ others) types carried are = absurd carried
    arguments_carried callee (o ∷ given) [] types carried are = absurd carried
    arguments_carried callee (o ∷ given) (to ∷ others) [] carried are = absurd are
    arguments_carried callee (o ∷ given) (to ∷ others) (ty ∷ types) carried are =
        (argument_carried callee o to ty carried.0 are.0, arguments_carried callee given others types carried.1 are.1)

    call_carried : (callee : Callee) (types : List Ty) → IsCall callee types inst → IsCall callee types other
    call_carried callee types call = record {
      result = carries.named ∙ (call.result ∙ ap (λ ty. not (is_void ty)) (sym carries.ty));
      type = ap is_answer carries.ty ∙ call.type;
      arguments = arguments_carried callee inst.operands other.operands types carries.operands call.arguments;
      no_labels = carries.labels ∙ call.no_labels;
      bundle = bundle_same inst.bundle other.bundle carries.bundle ∙ call.bundle;
      leaf = λ is. bundle_empty inst.bundle other.bundle carries.bundle (call.leaf is);
    }

    statepoint_carried : (callee : Callee) (types : List Ty) → IsStatepoint callee types inst → IsStatepoint callee types other
    statepoint_carried callee types point = record {
      result = carries.named ∙ point.result;
      type = ap is_answer carries.ty ∙ point.type;
      arguments = arguments_carried callee (take (length types) inst.operands) (take (length types) other.operands) types
          (carried_take (length types) inst.operands other.operands carries.operands) point.arguments;
      entries = all_same is_value same_value (drop (length types) inst.operands) (drop (length types) other.operands)
          (carried_drop (length types) inst.operands other.operands carries.operands) ∙ point.entries;
      no_labels = carries.labels ∙ point.no_labels;
      bundle = bundle_same inst.bundle other.bundle carries.bundle ∙ point.bundle;
    }

    token_carried : (given others rest : List Operand) → AllZip (Carries before now) given others → list_all is_literal rest ≡ true → StartsWithToken given rest → StartsWithToken others rest
    token_carried given others rest carried literal starts = by others (subst (λ (xs : List Operand). AllZip (Carries before now) xs others) starts.1 carried)
      where
        by : (others : List Operand) → AllZip (Carries before now) (operands.Value starts.0 ∷ rest) others → StartsWithToken others rest
        by [] carried = absurd carried
        by (to ∷ others) carried =
            ((carried.0).0, ap (λ (x : Operand). x ∷ others) (carried.0).1 ∙ ap (λ (xs : List Operand). operands.Value (carried.0).0 ∷ xs) (same_literals rest others carried.1 literal))

    line_as : (op : Op) → LineOf op inst → LineOf op other
    line_as ops.Add line = has_carried _ _ _ _ line
    line_as ops.Sub line = has_carried _ _ _ _ line
    line_as ops.Mul line = has_carried _ _ _ _ line
    line_as ops.Udiv line = has_carried _ _ _ _ line
    line_as ops.Sdiv line = has_carried _ _ _ _ line
    line_as ops.Urem line = has_carried _ _ _ _ line
    line_as ops.Srem line = has_carried _ _ _ _ line
    line_as ops.And line = has_carried _ _ _ _ line
    line_as ops.Or line = has_carried _ _ _ _ line
    line_as ops.Xor line = has_carried _ _ _ _ line
    line_as ops.Shl line = has_carried _ _ _ _ line
    line_as ops.Lshr line = has_carried _ _ _ _ line
    line_as ops.Ashr line = has_carried _ _ _ _ line
    line_as (ops.Icmp pred) line = has_carried _ _ _ _ line
    line_as (ops.Trunc width) line = has_carried _ _ _ _ line
    line_as (ops.Zext width) line = has_carried _ _ _ _ line
    line_as (ops.Sext width) line = has_carried _ _ _ _ line
    line_as ops.Select line = has_carried _ _ _ _ line
    line_as ops.Phi line = (has_as_many _ _ line.0, some_carried line.1)
    line_as (ops.Gep elem index_width place) line = (has_carried _ _ _ _ line.0, line.1)
    line_as ops.Load line = has_carried _ _ _ _ line
    line_as ops.Store line = has_carried _ _ _ _ line
    line_as (ops.Call callee types) line = call_carried callee types line
    line_as (ops.Statepoint id callee types) line = statepoint_carried callee types line
    line_as ops.GcResult line = (has_carried _ _ _ _ line.0, token_carried inst.operands other.operands [] carries.operands refl line.1)
    line_as ops.GcRelocate line =
        (has_carried _ _ _ _ line.0, (line.1.0, line.1.1, token_carried inst.operands other.operands (operands.Int line.1.0 ∷ operands.Int line.1.1 ∷ []) carries.operands refl line.1.2))
    line_as ops.Br line = has_carried _ _ _ _ line
    line_as ops.CondBr line = has_carried _ _ _ _ line
    line_as ops.Switch line = (
      has_as_many _ _ line.0,
      some_carried line.1,
      all_same is_literal same_literal (drop 1 inst.operands) (drop 1 other.operands) (carried_drop 1 inst.operands other.operands carries.operands) ∙ line.2,
    )
    line_as ops.Ret line =
        subst (λ ty. Has false is_answer (if is_void ty then 0 else 1) 0 other) (sym carries.ty) (has_carried false is_answer (if is_void inst.ty then 0 else 1) 0 line)
    line_as ops.Unreachable line = has_carried _ _ _ _ line

    pub line_carried : IsLine inst → IsLine other
    line_carried line = subst (λ (op : Op). LineOf op other) (sym carries.op) (line_as inst.op line)

-- ---- types

module _ (scope after : Scope) (sees : SeesAlike scope after) where
  fits_carried : (o other : Operand) (ty : Ty) → Carries scope.values after.values o other → Fits scope.values o ty → Fits after.values other ty
  fits_carried (operands.Value value) other ty carries fits = subst (λ (x : Operand). Fits after.values x ty) (sym carries.1) (carries.2 ty fits)
  fits_carried (operands.Int word) other ty carries fits = subst (λ (x : Operand). Fits after.values x ty) (sym carries) fits
  fits_carried operands.Null other ty carries fits = subst (λ (x : Operand). Fits after.values x ty) (sym carries) fits
  fits_carried (operands.Fun called) other ty carries fits = subst (λ (x : Operand). Fits after.values x ty) (sym carries) fits

  pub all_fit : (given others : List Operand) (types : List Ty) → AllZip (Carries scope.values after.values) given others → AllZip (Fits scope.values) given types → AllZip (Fits after.values) others types
  all_fit [] [] types carries fits = fits
  all_fit [] (other ∷ others) types carries fits = absurd carries
  all_fit (o ∷ given) [] types carries fits = absurd carries
  all_fit (o ∷ given) (other ∷ others) [] carries fits = absurd fits
  all_fit (o ∷ given) (other ∷ others) (ty ∷ types) carries fits = (fits_carried o other ty carries.0 fits.0, all_fit given others types carries.1 fits.1)

  abbrev EntryFits : List Ty → (Ty × Operand) → Type 0
  EntryFits values entry = Fits values entry.1 entry.0

  entries_fit : (given others : List (Ty × Operand)) → AllZip (CarriesEntry scope.values after.values) given others → All (EntryFits scope.values) given → All (EntryFits after.values) others
  entries_fit [] [] carries fits = All-nil (EntryFits after.values)
  entries_fit [] (other ∷ others) carries fits = absurd carries
  entries_fit (entry ∷ given) [] carries fits = absurd carries
  entries_fit (entry ∷ given) (other ∷ others) carries fits =
      All-cons (EntryFits after.values) other others
      (subst (λ ty. Fits after.values other.1 ty) (sym (carries.0).0) (fits_carried entry.1 other.1 entry.0 (carries.0).1 (All-head (EntryFits scope.values) entry given fits)))
      (entries_fit given others carries.1 (All-tail (EntryFits scope.values) entry given fits))

  module _ (inst other : Instruction) (carries : LineCarries scope.values after.values inst other) where
    fun_stays : (k : ℕ) (o : Operand) → ((to : Operand) → Carries scope.values after.values o to → to ≡ o) → slice_get inst.operands k ≡ Some o → slice_get other.operands k ≡ Some o
    fun_stays k o stays at =
        let there = carried_at scope.values after.values k inst.operands other.operands o carries.operands at in
        there.1 ∙ ap (λ x. Some x) (stays there.0 there.2)

    takes_carried : (callee : Callee) → TakesOperands scope callee inst.operands → TakesOperands after callee other.operands
    takes_carried callees.TaskStart takes =
        (takes.0, fun_stays 0 (operands.Fun takes.0) (λ to is. is) takes.1, sees.called (callees.Fun takes.0) ∙ takes.2)
    takes_carried callees.Check takes = (takes.0, fun_stays 2 (operands.Int (kind_of takes.0)) (λ to is. is) takes.1)
    takes_carried callee takes = tt

    call_of_carried : (callee : Callee) (types : List Ty) → IsCallOf scope callee types inst → IsCallOf after callee types other
    call_of_carried callee types call = record {
      signature = sees.called callee ∙ (call.signature ∙ ap (λ ty. Some (record { answer = ty; params = types })) (sym carries.ty));
      operands = takes_carried callee call.operands;
    }

    rule_carried : (op : Op) → LineOf op inst → RuleOf scope op inst → RuleOf after op other
    rule_carried (ops.Trunc width) line rule = subst (IsNarrower width) (sym carries.ty) rule
    rule_carried (ops.Zext width) line rule = subst (IsWider width) (sym carries.ty) rule
    rule_carried (ops.Sext width) line rule = subst (IsWider width) (sym carries.ty) rule
    rule_carried (ops.Gep elem index_width place) line rule = subst (λ (fields : List ℕ). HasField fields elem place) (sym sees.fields) rule
    rule_carried ops.Load line rule = subst IsCellType (sym carries.ty) rule
    rule_carried ops.Store line rule = subst IsCellType (sym carries.ty) rule
    rule_carried (ops.Call callee types) line rule = call_of_carried callee types rule
    rule_carried (ops.Statepoint id callee types) line rule = call_of_carried callee types rule
    rule_carried ops.Switch line rule =
        subst Distinct (sym (same_literals scope.values after.values (drop 1 inst.operands) (drop 1 other.operands)
        (carried_drop scope.values after.values 1 inst.operands other.operands carries.operands) line.2)) rule
    rule_carried ops.Ret line rule = carries.ty ∙ (rule ∙ sym sees.answer)
    rule_carried op line rule = tt

    pub typed_carried : IsLine inst → IsTyped scope inst → IsTyped after other
    typed_carried line typed =
        let count = AllZip-long (Carries scope.values after.values) inst.operands other.operands carries.operands in
        record {
          operands =
              subst (λ (op : Op). AllZip (Fits after.values) other.operands (asked op other.ty (length other.operands))) (sym carries.op)
              (subst (λ (ty : Ty). AllZip (Fits after.values) other.operands (asked inst.op ty (length other.operands))) (sym carries.ty)
              (subst (λ n. AllZip (Fits after.values) other.operands (asked inst.op inst.ty n)) (sym count)
              (all_fit inst.operands other.operands (asked inst.op inst.ty (length inst.operands)) carries.operands typed.operands)));
          bundle = entries_fit inst.bundle other.bundle carries.bundle typed.bundle;
          rule = subst (λ (op : Op). RuleOf after op other) (sym carries.op) (rule_carried inst.op line typed.rule);
        }
