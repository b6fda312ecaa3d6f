use Rattle.std.proofs.Common.{length, ◌-◌}
use Rattle.fact_tables.specs.Phis.{KnowsEntries}
use Rattle.fact_tables.proofs.phis.all_entries.Given as goal

abbrev pub invariant-loop-done : goal.invariant-loop-done
invariant-loop-done l = KnowsEntries l.labels l.operands (length l.labels - l.done) l.entries
