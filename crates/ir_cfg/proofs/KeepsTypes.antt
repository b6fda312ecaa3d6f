-- Kept lines keep their types.
use Rattle.std.proofs.Common.{◌≡◌, ℕ, suc, ◌+◌, Bool, true, false, List, [], ◌∷◌, length, drop, map, replicate, refl, ap, sym, Some, slice_get, inl, inr, ◌∙◌, subst}
use Rattle.std.specs.List.{All, AllZip, list_all}
use Rattle.std.proofs.lemmas.List.{length-map, drop-map}
use Rattle.std.proofs.lemmas.Bool.{cases_Bool, false≢true}
use Rattle.list_laws.proofs.Places.{filter_map_forth, get_front, get_map}
use Rattle.ir_ast.specs.declared.types.Ty.{Ty}
use Rattle.ir_ast.specs.declared.ops.Callee.{Callee}
use Rattle.ir_ast.specs.declared.ops.Callee.TheVariants.{Fun as Defined, TaskStart, Check}
use Rattle.ir_ast.specs.declared.ops.Op.{Op}
use Rattle.ir_ast.specs.declared.ops.Op.TheVariants.{Trunc, Zext, Sext, Phi, Gep, Load, Store, Call, Statepoint, Switch, Ret}
use Rattle.ir_ast.specs.declared.ops.Operand.{Operand}
use Rattle.ir_ast.specs.declared.ops.Operand.TheVariants.{Value, Int, Null, Fun}
use Rattle.ir_ast.specs.Cells.{kind_of}
use Rattle.ir_ast.specs.Lists.{Distinct}
use Rattle.ir_ast.specs.Insts.{Instruction}
use Rattle.ir_ast.specs.Funcs.{Function}
use Rattle.ir_ast.specs.Lines.{LineOf, IsLine}
use Rattle.ir_ast.specs.Operands.{is_literal, value_in, operands_of}
use Rattle.ir_ast.specs.Scope.{Scope}
use Rattle.ir_ast.specs.Faults.PhiEdges.{is_phi}
use Rattle.ir_ast.specs.Faults.TypeClash.{Fits, asked, HasField, StartsTask, ChecksKind, TakesOperands, IsCallOf, RuleOf, IsTyped, FunctionIsTyped}
use Rattle.graph_search.specs.Paths.{Marked}
use Rattle.ir_cfg.specs.Unreached.{Kept, kept_of, kept_by, value_marks, operand_kept, has_mark, function_kept}
use Rattle.ir_cfg.proofs.KeepsPlaces.{kept_get, number_of_marked}
use Rattle.list_laws.proofs.Contents.{all_at, all_from_at}
use Rattle.list_laws.proofs.Places.{get_past, map_back}
use Rattle.ir_cfg.proofs.KeepsLines.{IsKept, all_lines, inst_left, inst_new, line_at, two_steps}
use Rattle.ir_cfg.proofs.KeepsUses.{Lasts, phi_operands}
use Rattle.ir_cfg.proofs.KeepsForms.{left_plain}

-- what the lines of the new function see: the kept values, and else the same
pub record SeesKept (marks : List Bool) (func : Function) (scope after : Scope) : Type 0 where
  pub values : after.values ≡ kept_of (value_marks marks func) scope.values
  pub answer : after.answer ≡ scope.answer
  pub called : (callee : Callee) → after.called callee ≡ scope.called callee
  pub fields : after.fields ≡ scope.fields

fits_new : (marks : List Bool) (func : Function) (values : List Ty) (operand : Operand) (ty : Ty) → Fits values operand ty
    → ((value : ℕ) → value_in operand ≡ Some value → Marked (value_marks marks func) value)
    → Fits (kept_of (value_marks marks func) values) (operand_kept (kept_by marks func) operand) ty
fits_new marks func values (Value value) ty fits marked =
    let is = marked value.0 refl in
    ap (slice_get (kept_of (value_marks marks func) values)) (number_of_marked (value_marks marks func) value.0 is)
    ∙ kept_get (value_marks marks func) values value.0 ty is fits
fits_new marks func values (Int number) ty fits marked = fits
fits_new marks func values Null ty fits marked = fits
fits_new marks func values (Fun named) ty fits marked = fits

all_fit_new : (marks : List Bool) (func : Function) (values : List Ty) (operands : List Operand) (types : List Ty)
    → AllZip (Fits values) operands types
    → ((k : ℕ) (operand : Operand) (value : ℕ) → slice_get operands k ≡ Some operand → value_in operand ≡ Some value → Marked (value_marks marks func) value)
    → AllZip (Fits (kept_of (value_marks marks func) values)) (map (operand_kept (kept_by marks func)) operands) types
all_fit_new marks func values [] [] fit marked = fit
all_fit_new marks func values [] (ty ∷ types) fit marked = absurd fit
all_fit_new marks func values (operand ∷ operands) [] fit marked = absurd fit
all_fit_new marks func values (operand ∷ operands) (ty ∷ types) fit marked = (
  fits_new marks func values operand ty fit.0 (λ value is. marked 0 operand value refl is),
  all_fit_new marks func values operands types fit.1 (λ k one value at is. marked (suc k) one value at is),
)

-- the values in the operands of a line that lasts are kept
pub operand_marked : (marks : List Bool) (func : Function) (inst : Instruction) → Lasts marks func inst → (k : ℕ) (operand : Operand) (value : ℕ)
    → slice_get (inst_left (kept_by marks func) inst).operands k ≡ Some operand → value_in operand ≡ Some value
    → Marked (value_marks marks func) value
operand_marked marks func inst lasts k operand value at is =
    let left = inst_left (kept_by marks func) inst in
    let used = filter_map_forth value_in (operands_of left) k operand value (get_front left.operands (map (λ entry. entry.1) left.bundle) k operand at) is in
    lasts.values used.0 value used.1

-- and those in its bundle
bundle_marked : (marks : List Bool) (func : Function) (inst : Instruction) → Lasts marks func inst → (k : ℕ) (entry : Ty × Operand) (value : ℕ)
    → slice_get inst.bundle k ≡ Some entry → value_in entry.1 ≡ Some value → Marked (value_marks marks func) value
bundle_marked marks func inst lasts k entry value at is =
    let left = inst_left (kept_by marks func) inst in
    let second : (Ty × Operand) → Operand = λ entry. entry.1 in
    let there : slice_get (operands_of left) (length left.operands + k) ≡ Some entry.1 =
    get_past left.operands (map second inst.bundle) k ∙ get_map second inst.bundle k entry at in
    let used = filter_map_forth value_in (operands_of left) (length left.operands + k) entry.1 value there is in
    lasts.values used.0 value used.1

bundle_fits : (marks : List Bool) (func : Function) (values : List Ty) (bundle : List (Ty × Operand)) → All (λ (entry : Ty × Operand). Fits values entry.1 entry.0) bundle
    → ((k : ℕ) (entry : Ty × Operand) (value : ℕ) → slice_get bundle k ≡ Some entry → value_in entry.1 ≡ Some value → Marked (value_marks marks func) value)
    → All (λ (entry : Ty × Operand). Fits (kept_of (value_marks marks func) values) entry.1 entry.0) (map (λ (entry : Ty × Operand). (entry.0, operand_kept (kept_by marks func) entry.1)) bundle)
bundle_fits marks func values bundle fit marked =
    let new : (Ty × Operand) → (Ty × Operand) = λ entry. (entry.0, operand_kept (kept_by marks func) entry.1) in
    let Fit : (Ty × Operand) → Type 0 = λ entry. Fits (kept_of (value_marks marks func) values) entry.1 entry.0 in
    all_from_at Fit (map new bundle) (λ k entry at.
    let old = map_back new bundle k entry at in
    subst Fit (sym old.is)
    (fits_new marks func values old.before.1 old.before.0 (all_at (λ (one : Ty × Operand). Fits values one.1 one.0) bundle k old.before fit old.stands)
    (λ value is. marked k old.before value old.stands is)))

zip_left : {A B : Type 0} (R : A → B → Type 0) (y : B) (marks : List Bool) (xs : List A) → AllZip R xs (replicate (length xs) y)
    → AllZip R (kept_of marks xs) (replicate (length (kept_of marks xs)) y)
zip_left R y marks [] all = all
zip_left R y [] (x ∷ xs) all = tt
zip_left R y (true ∷ marks) (x ∷ xs) all = (all.0, zip_left R y marks xs all.1)
zip_left R y (false ∷ marks) (x ∷ xs) all = zip_left R y marks xs all.1

phi_asks : (op : Op) (ty : Ty) (count : ℕ) → is_phi op ≡ true → asked op ty count ≡ replicate count ty
phi_asks Phi ty count phi = refl
phi_asks op ty count phi = absurd (false≢true phi)

phi_rule : (scope : Scope) (op : Op) (inst : Instruction) → is_phi op ≡ true → RuleOf scope op inst
phi_rule scope Phi inst phi = tt
phi_rule scope op inst phi = absurd (false≢true phi)

phi_typed : (scope : Scope) (kept : Kept) (inst : Instruction) → is_phi inst.op ≡ true → IsTyped scope inst → IsTyped scope (inst_left kept inst)
phi_typed scope kept inst phi typed =
    let own = map (has_mark kept) inst.labels in
    let operands = phi_operands kept inst.op inst.labels inst.operands phi in
    let old : AllZip (Fits scope.values) inst.operands (replicate (length inst.operands) inst.ty) =
    subst (AllZip (Fits scope.values) inst.operands) (phi_asks inst.op inst.ty (length inst.operands) phi) typed.operands in
    record {
      operands = subst (λ (os : List Operand). AllZip (Fits scope.values) os (asked inst.op inst.ty (length os))) (sym operands)
          (subst (AllZip (Fits scope.values) (kept_of own inst.operands)) (sym (phi_asks inst.op inst.ty (length (kept_of own inst.operands)) phi))
          (zip_left (Fits scope.values) inst.ty own inst.operands old));
      bundle = typed.bundle;
      rule = phi_rule scope inst.op (inst_left kept inst) phi;
    }

-- a line that loses entries keeps its types
pub typed_left : (scope : Scope) (kept : Kept) (inst : Instruction) → IsTyped scope inst → IsTyped scope (inst_left kept inst)
typed_left scope kept inst typed =
    elim (cases_Bool (is_phi inst.op)) [
      | inl phi ↦ phi_typed scope kept inst phi typed
      | inr plain ↦ subst (IsTyped scope) (sym (left_plain kept inst plain)) typed
    ]

task_new : (scope after : Scope) (kept : Kept) (operands : List Operand) → ((callee : Callee) → after.called callee ≡ scope.called callee)
    → StartsTask scope operands → StartsTask after (map (operand_kept kept) operands)
task_new scope after kept operands called starts =
    (starts.0, get_map (operand_kept kept) operands 0 (Fun starts.0) starts.1, called (Defined starts.0) ∙ starts.2)

kind_new : (kept : Kept) (operands : List Operand) → ChecksKind operands → ChecksKind (map (operand_kept kept) operands)
kind_new kept operands checks = (checks.0, get_map (operand_kept kept) operands 2 (Int (kind_of checks.0)) checks.1)

takes_new : (scope after : Scope) (kept : Kept) (callee : Callee) (operands : List Operand) → ((callee : Callee) → after.called callee ≡ scope.called callee)
    → TakesOperands scope callee operands → TakesOperands after callee (map (operand_kept kept) operands)
takes_new scope after kept TaskStart operands called takes = task_new scope after kept operands called takes
takes_new scope after kept Check operands called takes = kind_new kept operands takes
takes_new scope after kept callee operands called takes = tt

call_of_new : (scope after : Scope) (kept : Kept) (callee : Callee) (types : List Ty) (inst : Instruction)
    → ((callee : Callee) → after.called callee ≡ scope.called callee) → IsCallOf scope callee types inst
    → IsCallOf after callee types (inst_new kept inst)
call_of_new scope after kept callee types inst called call = record {
  signature = called callee ∙ call.signature;
  operands = takes_new scope after kept callee inst.operands called call.operands;
}

literals_same : (kept : Kept) (operands : List Operand) → list_all is_literal operands ≡ true → map (operand_kept kept) operands ≡ operands
literals_same kept [] all = refl
literals_same kept (Value value ∷ operands) all = absurd (false≢true all)
literals_same kept (Int number ∷ operands) all = ap (λ (os : List Operand). Int number ∷ os) (literals_same kept operands all)
literals_same kept (Null ∷ operands) all = absurd (false≢true all)
literals_same kept (Fun func ∷ operands) all = absurd (false≢true all)

cases_new : (kept : Kept) (inst : Instruction) → LineOf Switch inst → Distinct (drop 1 inst.operands) → Distinct (drop 1 (inst_new kept inst).operands)
cases_new kept inst line distinct =
    subst Distinct (sym (drop-map (operand_kept kept) 1 inst.operands ∙ literals_same kept (drop 1 inst.operands) line.2)) distinct

rule_new : (marks : List Bool) (func : Function) (scope after : Scope) (op : Op) (inst : Instruction) → SeesKept marks func scope after
    → LineOf op inst → RuleOf scope op inst → RuleOf after op (inst_new (kept_by marks func) inst)
rule_new marks func scope after (Trunc width) inst sees line rule = rule
rule_new marks func scope after (Zext width) inst sees line rule = rule
rule_new marks func scope after (Sext width) inst sees line rule = rule
rule_new marks func scope after (Gep elem index_width place) inst sees line rule =
    subst (λ (fields : List ℕ). HasField fields elem place) (sym sees.fields) rule
rule_new marks func scope after Load inst sees line rule = rule
rule_new marks func scope after Store inst sees line rule = rule
rule_new marks func scope after (Call callee types) inst sees line rule = call_of_new scope after (kept_by marks func) callee types inst sees.called rule
rule_new marks func scope after (Statepoint id callee types) inst sees line rule = call_of_new scope after (kept_by marks func) callee types inst sees.called rule
rule_new marks func scope after Switch inst sees line rule = cases_new (kept_by marks func) inst line rule
rule_new marks func scope after Ret inst sees line rule = rule ∙ sym sees.answer
rule_new marks func scope after op inst sees line rule = tt

typed_new : (marks : List Bool) (func : Function) (scope after : Scope) (inst : Instruction) → SeesKept marks func scope after
    → Lasts marks func inst → IsLine (inst_left (kept_by marks func) inst)
    → IsTyped scope (inst_left (kept_by marks func) inst)
    → IsTyped after (inst_new (kept_by marks func) (inst_left (kept_by marks func) inst))
typed_new marks func scope after inst sees lasts line typed =
    let kept = kept_by marks func in
    let left = inst_left kept inst in
    let many : length (map (operand_kept kept) left.operands) ≡ length left.operands = length-map left.operands (operand_kept kept) in
    record {
      operands =
          subst (λ (n : ℕ). AllZip (Fits after.values) (map (operand_kept kept) left.operands) (asked inst.op inst.ty n)) (sym many)
          (subst (λ (vs : List Ty). AllZip (Fits vs) (map (operand_kept kept) left.operands) (asked inst.op inst.ty (length left.operands))) (sym sees.values)
          (all_fit_new marks func scope.values left.operands (asked inst.op inst.ty (length left.operands)) typed.operands
          (operand_marked marks func inst lasts)));
      bundle = subst (λ (vs : List Ty). All (λ (entry : Ty × Operand). Fits vs entry.1 entry.0) (inst_new kept left).bundle) (sym sees.values)
          (bundle_fits marks func scope.values inst.bundle typed.bundle (bundle_marked marks func inst lasts));
      rule = rule_new marks func scope after inst.op left sees line typed.rule;
    }

-- a function keeps its types
pub typed_kept : (marks : List Bool) (func : Function) (scope after : Scope) → SeesKept marks func scope after
    → ((inst : Instruction) → IsKept marks func inst → Lasts marks func inst)
    → ((inst : Instruction) → IsKept marks func inst → IsLine (inst_left (kept_by marks func) inst))
    → FunctionIsTyped scope func → FunctionIsTyped after (function_kept marks func)
typed_kept marks func scope after sees lasts lines typed = record {
  answer = typed.answer;
  args = typed.args;
  lines = all_lines (IsTyped after) marks func (λ inst kept.
      subst (IsTyped after) (sym (two_steps (kept_by marks func) inst))
      (typed_new marks func scope after inst sees (lasts inst kept)
      (lines inst kept)
      (typed_left scope (kept_by marks func) inst (line_at (IsTyped scope) func kept.number kept.place inst kept.stands typed.lines))));
}
