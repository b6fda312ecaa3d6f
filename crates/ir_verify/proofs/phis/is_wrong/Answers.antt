use Rattle.std.proofs.Common.{◌≡◌, ◌∙◌, true, sym, ap}
use Rattle.ir_ast.specs.Faults.PhiEdges.{is_phi}
use Rattle.ir_verify.proofs.PhiLemmas.{wrong-by}
use Rattle.ir_verify.proofs.phis.is_wrong.Goals as goal

pub returns-clause-wrong : goal.returns-clause-wrong
returns-clause-wrong c =
    let phi : is_phi c.args.inst.now.op ≡ true = ap is_phi (sym c.op.ensures) ∙ sym c.is_phi.ensures ∙ c.if-not-is_phi.false in (
      (λ t. (phi, λ right. c.in_ok-wrong.ensures.wrong t right.1)),
      (λ w. wrong-by c.in_ok-wrong.wrong c.args.late c.args.into.now c.args.inst.now c.if-late.false c.in_ok-wrong.ensures.right w),
    )
