-- A resolved text whose module has no fault has none of its module; so a text without a fault of its own that stands for such a
-- module has no fault.
use Rattle.std.proofs.Common.{◌≡◌, ◌∙◌, ℕ, zero, suc, ◌<◌, List, [], ◌∷◌, drop, sym, subst, arith}
use Rattle.std.specs.Prelude.{Some, slice_get}
use Rattle.std.specs.List.{All}
use Rattle.std.proofs.lemmas.Option.{slice_get_within, none-some}
use Rattle.list_laws.proofs.Contents.{all_at}
use Rattle.ir_ast.specs.declared.modules.Form.{Form}
use Rattle.ir_ast.specs.declared.modules.Form.TheVariants.{Source, Rewritten}
use Rattle.ir_ast.specs.declared.ops.Op.{Op}
use Rattle.ir_ast.specs.declared.ops.Op.TheVariants.{Call, Statepoint, Switch}
use Rattle.ir_ast.specs.declared.ops.Operand.{Operand}
use Rattle.ir_ast.specs.Insts.{Instruction}
use Rattle.ir_ast.specs.Funcs.{Function, instructions_of}
use Rattle.ir_ast.specs.Modules.{ModuleContent}
use Rattle.ir_ast.specs.Lists.{Distinct}
use Rattle.ir_ast.specs.Scope.{Scope, scope_of}
use Rattle.ir_ast.specs.Faultless.{FunctionHasNoFault, HasNoFault, OfForm}
use Rattle.ir_ast.specs.Faults.TypeClash.{IsTyped, FunctionIsTyped, RuleOf}
use Rattle.ir_ast.specs.Faults.EntryHasPred.{LeavesEntry}
use Rattle.ir_ast.specs.Faults.DerivedEscapes.{KeepsDerived}
use Rattle.ir_ast.specs.Faults.PointerOrder.{orders_pointers}
use Rattle.ir_lines.specs.Statements.{Line}
use Rattle.ir_lines.specs.Modules.{module_of}
use Rattle.ir_resolve.specs.Resolved.{Resolved, resolved}
use Rattle.ir_resolve.specs.TextFaults.{HasTextFault}
use Rattle.ir_resolve.specs.ModuleFaults.{Stands, RuleBesidesCalls, CaseAgain, HasModuleFault, type_clash, case_again, entry_has_pred, phi_edges, derived_escapes, no_main, pointer_order, group_shape}
use Rattle.ir_resolve.specs.FaultSet.{HasNoResolvedFault, of_text, of_module}

besides_calls : (scope : Scope) (op : Op) (inst : Instruction) → RuleOf scope op inst → RuleBesidesCalls scope op inst
besides_calls scope (Call callee types) inst rule = tt
besides_calls scope (Statepoint id callee types) inst rule = tt
besides_calls scope Switch inst rule = tt
besides_calls scope _ inst rule = rule

not_again : (xs : List Operand) (j k : ℕ) (x : Operand) → 0 < j → j < k → slice_get xs j ≡ Some x → slice_get xs k ≡ Some x → Distinct (drop 1 xs) → ⊥
not_again [] j k x some order e f distinct = none-some x e
not_again (y ∷ ys) zero k x some order e f distinct = omega (arith, some)
not_again (y ∷ ys) (suc j) zero x some order e f distinct = omega (arith, order)
not_again (y ∷ ys) (suc j) (suc k) x some order e f distinct =
    distinct j k (omega (arith, order)) (slice_get_within ys k x f) (e ∙ sym f)

module _ (text : Resolved) (clean : HasNoFault text.whole.content) where
  abbrev content : ModuleContent
  content = text.whole.content

  of_function : (number : ℕ) (func : Function) → slice_get content.funcs number ≡ Some func → FunctionHasNoFault content func
  of_function number func stands = all_at (FunctionHasNoFault content) content.funcs number func clean.functions stands

  its_clean : (at : Stands text) → FunctionHasNoFault content at.func
  its_clean at = of_function at.number at.func at.is_function

  its_form : (form : Form) → content.form ≡ form → (at : Stands text) → OfForm form at.func
  its_form form is at = subst (λ (f : Form). OfForm f at.func) is (its_clean at).form

  typed : (at : Stands text) → IsTyped (scope_of content at.func) at.inst
  typed at =
      all_at (IsTyped (scope_of content at.func)) (instructions_of at.func.blocks) at.place at.inst
      (all_at (λ (func : Function). FunctionIsTyped (scope_of content func) func) content.funcs at.number at.func clean.typed at.is_function).lines
      at.is_instruction

  no_case : (line : ℕ) → CaseAgain text line → ⊥
  no_case line again =
      let rule : RuleOf (scope_of content again.at.func) Switch again.at.inst =
      subst (λ (op : Op). RuleOf (scope_of content again.at.func) op again.at.inst) again.switch (typed again.at).rule in
      not_again again.at.inst.operands again.earlier again.later again.value again.behind_tested again.in_order again.is_earlier again.is_later rule

  pub faultless_unbroken : (line code : ℕ) → ¬ HasModuleFault text line code
  faultless_unbroken line code (type_clash f) =
      f.breaks (record {
        operands = (typed f.at).operands;
        bundle = (typed f.at).bundle;
        rule = besides_calls (scope_of content f.at.func) f.at.inst.op f.at.inst (typed f.at).rule;
      })
  faultless_unbroken line code (case_again f) = no_case line f
  faultless_unbroken line code (entry_has_pred f) =
      all_at (λ (label : Rattle.sp_ids.specs.declared.ids.BlockId.BlockId). label.0 ≡ 0 → ⊥) f.at.inst.labels f.part f.label
      (all_at LeavesEntry (instructions_of f.at.func.blocks) f.at.place f.at.inst (its_clean f.at).entry f.at.is_instruction f.ends) f.is_label f.first
  faultless_unbroken line code (phi_edges f) =
      f.wrong ((of_function f.number f.func f.is_function).phis f.at f.block f.before f.after f.phi f.is_block f.whole f.merges)
  faultless_unbroken line code (derived_escapes is f) =
      f.breaks (all_at (KeepsDerived f.at.func) (instructions_of f.at.func.blocks) f.at.place f.at.inst (its_form Source is f.at).1 f.at.is_instruction)
  faultless_unbroken line code (no_main at none) = none clean.main
  faultless_unbroken line code (pointer_order f) =
      f.breaks (all_at (λ (inst : Instruction). orders_pointers inst.op inst.ty ≡ Rattle.std.specs.Prelude.false) (instructions_of f.at.func.blocks) f.at.place f.at.inst
      (its_clean f.at).pointers f.at.is_instruction)
  faultless_unbroken line code (group_shape is f) = f.breaks (its_form Rewritten is f.at f.at.place f.at.inst f.at.is_instruction)

pub resolved_faultless : (form : Form) (lines : List Line) → ((line code : ℕ) → ¬ HasTextFault form lines line code) → HasNoFault (module_of form lines).content
    → HasNoResolvedFault form lines
resolved_faultless form lines none clean line code (of_text f) = none line code f
resolved_faultless form lines none clean line code (of_module f) =
    faultless_unbroken (resolved form lines) clean line code f
