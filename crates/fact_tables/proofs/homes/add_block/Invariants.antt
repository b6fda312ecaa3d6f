use Rattle.fact_tables.specs.Homes.{KnowsHomes}
use Rattle.fact_tables.proofs.homes.add_block.Given as goal

abbrev pub invariant-loop-place : goal.invariant-loop-place
invariant-loop-place l = KnowsHomes l.func.content l.number l.place l.homes.items
