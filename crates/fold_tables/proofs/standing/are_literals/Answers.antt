use Rattle.std.proofs.Common.{◌∙◌, sym, ap}
use Rattle.ir_ast.specs.Operands.{is_literal}
use Rattle.folded_forms.specs.Folded.{stands_for}
use Rattle.fold_tables.proofs.ListLaws.{fails_mapped}
use Rattle.fold_tables.proofs.standing.are_literals.Goals as goal

pub returns-then-not-is_literal : goal.returns-then-not-is_literal
returns-then-not-is_literal c =
    sym (fails_mapped is_literal (stands_for c.args.table.now) c.args.operands.now c.loop-operand.operand-index _ c.loop-operand-test.true
    (ap is_literal (sym c.stand_for.ensures) ∙ (sym c.is_literal.ensures ∙ c.if-not-is_literal.true)))
