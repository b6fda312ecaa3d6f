use Rattle.fact_tables.specs.Homes.{KnowsHomes}
use Rattle.fact_tables.proofs.homes.homes.Given as goal

abbrev pub invariant-loop-number : goal.invariant-loop-number
invariant-loop-number l = KnowsHomes l.func.content l.number 0 l.homes.items
