use Rattle.std.proofs.Common.{take}
use Rattle.std.proofs.lemmas.List.{take_more}
use Rattle.ssa_rebuild.specs.Rows.{uses_of}
use Rattle.ssa_rebuild.proofs.RowLemmas.{added_more, uses_append}
use Rattle.ssa_rebuild.proofs.lines.push_uses.Goals as goal

pub loop-operand-preserved : goal.loop-operand-preserved
loop-operand-preserved c =
    let i = c.loop-operand.operand-index in
    added_more uses_of uses_append (take i c.args.operands.now) _ _ c.args.row.now.items c.loop-operand.row.items c.push_use.new.row.items
    (take_more c.args.operands.now i _ c.loop-operand-test.true) c.loop-operand.invariant c.in_ok-push_use.ensures
