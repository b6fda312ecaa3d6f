use Rattle.std.proofs.Common.{◌≡◌, ◌∙◌, sym, subst, List, true, false}
use Rattle.std.specs.Prelude.{length}
use Rattle.std.specs.List.{All, AllZip}
use Rattle.ir_ast.specs.declared.types.Ty.{Ty}
use Rattle.ir_ast.specs.declared.ops.Operand.{Operand}
use Rattle.ir_ast.specs.Faults.TypeClash.{Fits, asked}
use Rattle.ir_verify.proofs.types.is_typed.Goals as goal

pub returns-then-uses_fit : goal.returns-then-uses_fit
returns-then-uses_fit c =
    let inst = c.args.inst.now in
    let fit = subst (λ (values : List Ty). AllZip (Fits values) inst.operands (asked inst.op inst.ty (length inst.operands))
    × All (λ (entry : Ty × Operand). Fits values entry.1 entry.0) inst.bundle) c.requires (c.uses_fit.ensures.0 c.if-uses_fit.true) in (
      (λ is. record { operands = fit.0; bundle = fit.1; rule = c.keeps_rule.ensures.0 is }),
      (λ typed. c.keeps_rule.ensures.1 typed.rule),
    )

pub returns-else-uses_fit : goal.returns-else-uses_fit
returns-else-uses_fit c =
    let inst = c.args.inst.now in (
      (λ is. absurd (let bad : false ≡ true = sym c.if-uses_fit.false ∙ is in cc)),
      (λ typed. c.uses_fit.ensures.1 (subst (λ (values : List Ty). AllZip (Fits values) inst.operands (asked inst.op inst.ty (length inst.operands))
          × All (λ (entry : Ty × Operand). Fits values entry.1 entry.0) inst.bundle) (sym c.requires) (typed.operands, typed.bundle))),
    )
