use Rattle.std.proofs.Common.{sym, arith}
use Rattle.moving_heap.proofs.ShapeLemmas.{begins_at}
use Rattle.moving_heap.proofs.cells.begin_of.Goals as goal

pub returns-else-object-eq0 : goal.returns-else-object-eq0
returns-else-object-eq0 c = sym (begins_at c.args.parts.now c.args.object (omega arith))
