use Rattle.std.proofs.Common.{◌≡◌, replicate, None}
use Rattle.fact_tables.proofs.homes.without_homes.Given as goal

abbrev pub invariant-loop : goal.invariant-loop
invariant-loop l = l.homes.items ≡ replicate l.counter None
