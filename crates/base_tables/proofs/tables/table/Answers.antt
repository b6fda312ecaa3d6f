use Rattle.base_tables.proofs.TableLemmas.{table_more}
use Rattle.base_tables.proofs.tables.table.Goals as goal

pub loop-value-preserved : goal.loop-value-preserved
loop-value-preserved c =
    table_more c.args.inserted.now c.args.numbers.now c.args.bases.now c.loop-value.value _ c.loop-value.table.items c.push_inserted.new.table.items c.push.new.self.items
    c.loop-value-test.true c.loop-value.invariant c.in_ok-push_inserted.ensures c.in_ok-push.ensures.items
