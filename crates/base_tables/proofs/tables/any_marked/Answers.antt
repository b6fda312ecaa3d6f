use Rattle.std.proofs.Common.{◌∙◌, sym, arith}
use Rattle.base_tables.proofs.TableLemmas.{any_here, any_later, any_none}
use Rattle.base_tables.proofs.tables.any_marked.Goals as goal

pub returns-then-is_marked : goal.returns-then-is_marked
returns-then-is_marked c =
    sym (c.loop-operand.invariant ∙ any_here c.args.marks.now c.args.operands.now c.loop-operand.operand-index _ c.loop-operand-test.true (sym c.if-is_marked.ensures))

pub loop-operand-preserved : goal.loop-operand-preserved
loop-operand-preserved c =
    c.loop-operand.invariant ∙ any_later c.args.marks.now c.args.operands.now c.loop-operand.operand-index _ c.loop-operand-test.true (sym c.if-is_marked.ensures)

pub returns : goal.returns
returns c = sym (c.loop-operand.invariant ∙ any_none c.args.marks.now c.args.operands.now c.loop-operand.operand-index (omega arith))
