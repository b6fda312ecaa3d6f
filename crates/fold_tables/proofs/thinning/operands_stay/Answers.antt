use Rattle.fold_tables.specs.Checks.{StaysIn}
use Rattle.fold_tables.proofs.ListLaws.{all_more, all_passed}
use Rattle.fold_tables.proofs.thinning.operands_stay.Goals as goal

pub loop-operand-preserved : goal.loop-operand-preserved
loop-operand-preserved c =
    all_more (StaysIn c.args.table.now) c.args.operands.now c.loop-operand.operand-index _ c.loop-operand-test.true c.loop-operand.invariant c.if-not-stays_in.ensures

pub returns : goal.returns
returns c = all_passed (StaysIn c.args.table.now) c.args.operands.now c.loop-operand.operand-index c.loop-operand-test.false c.loop-operand.invariant
