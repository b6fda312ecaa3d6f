use Rattle.std.proofs.Common.{◌≡◌}
use Rattle.folded_forms.specs.Folded.{stands_for}
use Rattle.fold_tables.proofs.ListLaws.{all_more, all_passed}
use Rattle.fold_tables.proofs.folding.is_closed.Goals as goal

pub loop-operand-preserved : goal.loop-operand-preserved
loop-operand-preserved c =
    all_more (λ operand. stands_for c.args.table.now operand ≡ operand) c.args.table.now c.loop-operand.operand-index _ c.loop-operand-test.true c.loop-operand.invariant c.if-not-is_root.ensures

pub returns : goal.returns
returns c =
    all_passed (λ operand. stands_for c.args.table.now operand ≡ operand) c.args.table.now c.loop-operand.operand-index c.loop-operand-test.false c.loop-operand.invariant
