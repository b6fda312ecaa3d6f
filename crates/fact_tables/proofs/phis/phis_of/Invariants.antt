use Rattle.pair_facts.specs.Lines.{lines_at}
use Rattle.fact_tables.specs.Phis.{ArePhis}
use Rattle.fact_tables.proofs.phis.phis_of.Given as goal

abbrev pub invariant-loop-place : goal.invariant-loop-place
invariant-loop-place l = ArePhis (lines_at l.func.content l.number) l.place l.phis.items
