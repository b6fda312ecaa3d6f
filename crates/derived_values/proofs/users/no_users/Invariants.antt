use Rattle.std.proofs.Common.{◌≡◌, replicate, []}
use Rattle.std.specs.Prelude.{map}
use Rattle.derived_values.proofs.users.no_users.Given as goal

abbrev pub invariant-loop : goal.invariant-loop
invariant-loop l = map (λ row. row.items) l.users.items ≡ replicate l.counter []
