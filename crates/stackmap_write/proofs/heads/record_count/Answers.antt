use Rattle.std.proofs.Common.{arith}
use Rattle.stackmap_write.proofs.EntryLemmas.{counted_step}
use Rattle.stackmap_write.proofs.heads.record_count.Goals as goal

pub overflow_cast-count : goal.overflow_cast-count
overflow_cast-count c = omega (arith, c.loop-func.invariant, counted_step c.args.layouts.now c.loop-func.func (omega arith))

pub overflow_add-count : goal.overflow_add-count
overflow_add-count c = omega (arith, c.loop-func.invariant, counted_step c.args.layouts.now c.loop-func.func (omega arith))

pub loop-func-preserved : goal.loop-func-preserved
loop-func-preserved c = omega (arith, c.loop-func.invariant, counted_step c.args.layouts.now c.loop-func.func (omega arith))
