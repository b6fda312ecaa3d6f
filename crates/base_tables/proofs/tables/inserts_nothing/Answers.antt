use Rattle.std.proofs.Common.{sym, arith}
use Rattle.base_tables.specs.Flags.{kind_inserted}
use Rattle.base_tables.specs.Seen.{seen_shape}
use Rattle.base_tables.proofs.UnchangedLemmas.{none_more, none_all}
use Rattle.base_tables.proofs.tables.inserts_nothing.Goals as goal

pub loop-shape-preserved : goal.loop-shape-preserved
loop-shape-preserved c =
    none_more (kind_inserted c.args.marks.now) seen_shape c.args.shapes.now c.loop-shape.shape-index _ c.loop-shape-test.true c.loop-shape.invariant (sym c.if-is_inserted.ensures)

pub returns : goal.returns
returns c is = none_all (kind_inserted c.args.marks.now) seen_shape c.args.shapes.now c.loop-shape.shape-index (omega arith) c.loop-shape.invariant
