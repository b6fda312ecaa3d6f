use Rattle.std.proofs.Common.{◌∙◌, Bool, sym}
use Rattle.std.specs.Prelude.{filter}
use Rattle.ir_ast.specs.declared.ops.Operand.{Operand}
use Rattle.folded_forms.specs.Foldable.{other_than}
use Rattle.fold_tables.proofs.CheckLaws.{agreed_only, end_at, failed_at}
use Rattle.fold_tables.proofs.pure.have_one_other.Goals as goal

pub returns-then-not-agrees : goal.returns-then-not-agrees
returns-then-not-agrees c =
    let p : Operand → Bool = other_than c.args.value.0 in
    sym (failed_at p c.loop-operand.first c.args.operands.now c.loop-operand.operand-index _ c.loop-operand-test.true (sym c.is_other.ensures ∙ c.if-is_other.true) (sym c.agrees.ensures ∙ c.if-not-agrees.true))
    ∙ (c.loop-operand.invariant ∙ agreed_only (filter p c.args.operands.now))

pub returns : goal.returns
returns c =
    let p : Operand → Bool = other_than c.args.value.0 in
    let end = end_at p c.loop-operand.first c.args.operands.now c.loop-operand.operand-index c.loop-operand-test.false in
    c.is_some.ensures ∙ (sym end ∙ (c.loop-operand.invariant ∙ agreed_only (filter p c.args.operands.now)))
