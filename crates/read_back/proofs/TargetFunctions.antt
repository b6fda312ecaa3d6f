-- A function of a target module can be read.
use Rattle.std.proofs.Common.{◌≡◌, refl, subst, ℕ, ◌≤◌, arith, Bool, true, false, List, length, get_or}
use Rattle.std.specs.Prelude.{Some, slice_get}
use Rattle.std.specs.List.{All, Contains}
use Rattle.std.proofs.lemmas.List.Elements.{All-contains}
use Rattle.std.proofs.lemmas.Option.{slice_get-get_or}
use Rattle.ir_ast.specs.declared.modules.Form.{Form}
use Rattle.ir_ast.specs.declared.modules.Form.TheVariants.{Source, Rewritten}
use Rattle.ir_ast.specs.declared.ops.Op.{Op}
use Rattle.ir_ast.specs.declared.ops.Op.TheVariants as ops
use Rattle.ir_ast.specs.declared.ops.Operand.{Operand}
use Rattle.ir_ast.specs.Faultless.{FunctionHasNoFault, OfForm}
use Rattle.ir_ast.specs.Faults.GroupShape.{live_entries, entries_of, is_statepoint}
use Rattle.ir_ast.specs.Insts.{Instruction}
use Rattle.ir_ast.specs.Funcs.{Function, instructions_of}
use Rattle.ir_ast.specs.Modules.{ModuleContent}
use Rattle.ir_cfg.specs.Statepoints.{StatepointsAreSmall}
use Rattle.ir_cfg.specs.TypedModules.{IsTypedFunction, IsTypedModule}
use Rattle.read_back.proofs.FunctionsPrinted.{FunctionIsReadable}
use Rattle.read_back.proofs.Rows.{runs_fit}

-- what is no statepoint has no live entry
no_entries : (op : Op) (os : List Operand) → is_statepoint op ≡ false → length (live_entries op os) ≤ 16384
no_entries (ops.Statepoint id callee takes) os other = absurd (let bad : true ≡ false = other in cc)
no_entries _ os other = omega arith

entries_few : (func : Function) → StatepointsAreSmall func → All (λ (inst : Instruction). length (entries_of inst) ≤ 16384) (instructions_of func.blocks)
entries_few func small = λ k d low. at k (get_or (instructions_of func.blocks) k d) (slice_get-get_or (instructions_of func.blocks) k d low)
  where
    at : (place : ℕ) (inst : Instruction) → slice_get (instructions_of func.blocks) place ≡ Some inst → length (entries_of inst) ≤ 16384
    at place inst stands = by (is_statepoint inst.op) refl
      where
        by : (statepoint : Bool) → is_statepoint inst.op ≡ statepoint → length (entries_of inst) ≤ 16384
        by true is = (small place inst stands is).0
        by false is = no_entries inst.op inst.operands is

pub target_readable : (content : ModuleContent) → IsTypedModule Rewritten content → (func : Function) → Contains content.funcs func → FunctionIsReadable Rewritten func
target_readable content target func c = record {
  plain = λ is. absurd (let bad : Rewritten ≡ Source = is in cc);
  few = entries_few func small;
  runs = runs_fit func (subst (λ (form : Form). OfForm form func) target.of_form (All-contains (FunctionHasNoFault content) content.funcs func target.no_fault.functions c).form) small;
  values = omega (arith, few);
}
  where
    small : StatepointsAreSmall func
    small = (All-contains (IsTypedFunction Rewritten) content.funcs func target.functions c).small.statepoints

    few : length func.args ≤ 64
    few = All-contains (λ (f : Function). length f.args ≤ 64) content.funcs func target.limits.arguments c
