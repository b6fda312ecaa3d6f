use Rattle.std.proofs.Common.{length, ◌-◌, arith}
use Rattle.fact_tables.proofs.PhiLemmas.{entries_none, entries_more}
use Rattle.fact_tables.proofs.phis.all_entries.Goals as goal

pub loop-done-init : goal.loop-done-init
loop-done-init c = entries_none c.args.labels.now c.args.operands.now (length c.args.labels.now - 0) c.new-entries.result (omega arith) c.new-entries.ensures.empty

pub loop-done-preserved : goal.loop-done-preserved
loop-done-preserved c =
    entries_more c.args.labels.now c.args.operands.now c.loop-done.done _ c.operand_at.result c.loop-done.entries c.insert.new.self
    c.loop-done-test.true c.operand_at.ensures c.in_ok-insert.ensures.updates c.loop-done.invariant
