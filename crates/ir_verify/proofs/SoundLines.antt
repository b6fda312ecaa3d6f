-- A line of a kind that most lines are has no fault of its own.
use Rattle.std.proofs.Common.{◌≡◌, ◌∙◌, ℕ, List, true, false, sym, ap, inl, inr}
use Rattle.ir_ast.specs.Faults.PointerOrder.{orders_pointers}
use Rattle.ir_ast.specs.Funcs.{Function}
use Rattle.ir_ast.specs.Insts.{Instruction}
use Rattle.ir_ast.specs.Modules.{ModuleContent}
use Rattle.ir_ast.specs.Ops.{is_terminator}
use Rattle.ir_ast.specs.Scope.{scope_of}
use Rattle.ir_resolve.specs.ModuleFaults.{IsTypedBesidesCalls}
use Rattle.ir_verify.specs.FunctionFaults.{InstFault}

pub no-fault : (content : ModuleContent) (func : Function) (line : ℕ) (cases : List ℕ) (inst : Instruction) → is_terminator inst.op ≡ false
    → orders_pointers inst.op inst.ty ≡ false → IsTypedBesidesCalls (scope_of content func) inst
    → (l code : ℕ) → ¬ InstFault content func line cases inst l code
no-fault content func line cases inst inside unordered typed l code fault =
    elim fault [
      | inl clash ↦ clash.2 typed
      | inr other ↦ elim other [
        | inl order ↦ let bad : false ≡ true = sym unordered ∙ order.2 in cc
        | inr part ↦ elim part [
          | inl case ↦ let bad : false ≡ true = sym inside ∙ ap is_terminator case.0 in cc
          | inr entry ↦ let bad : false ≡ true = sym inside ∙ entry.0 in cc
        ]
      ]
    ]
