use Rattle.std.proofs.Common.{List, sym, subst}
use Rattle.sp_ids.specs.declared.ids.BlockId.{BlockId}
use Rattle.ir_ast.specs.declared.ops.Operand.{Operand}
use Rattle.ir_verify.specs.Phis.{Counts, Agree}
use Rattle.ir_verify.proofs.PhiLemmas.{labels-inside}
use Rattle.ir_verify.proofs.phis.are_wrong.Goals as goal

pub differ-different-requires : goal.differ-different-requires
differ-different-requires c =
    labels-inside c.args.into.now c.labels-labels.result.now _ (c.in_ok-uncounted.ensures.counts c.if-uncounted.false) c.requires.inside

pub returns-then-uncounted-clause-wrong : goal.returns-then-uncounted-clause-wrong
returns-then-uncounted-clause-wrong c = λ t right.
    c.in_ok-uncounted.ensures.apart c.if-uncounted.true
    (subst (λ (labels : List BlockId). Counts c.args.into.now labels) (sym c.labels-labels.ensures) right.0)

pub returns-clause-wrong : goal.returns-clause-wrong
returns-clause-wrong c = λ t right.
    c.differ-different.ensures.apart t
    (subst (λ (labels : List BlockId). Agree labels c.operands-operands.result.now) (sym c.labels-labels.ensures)
    (subst (λ (operands : List Operand). Agree c.args.inst.now.labels operands) (sym c.operands-operands.ensures) right.1))

pub returns-clause-right : goal.returns-clause-right
returns-clause-right c = λ f. (
  subst (λ (labels : List BlockId). Counts c.args.into.now labels) c.labels-labels.ensures (c.in_ok-uncounted.ensures.counts c.if-uncounted.false),
  subst (λ (operands : List Operand). Agree c.args.inst.now.labels operands) c.operands-operands.ensures
      (subst (λ (labels : List BlockId). Agree labels c.operands-operands.result.now) c.labels-labels.ensures (c.differ-different.ensures.agree f)),
)
