use Rattle.std.specs.Prelude.{map}
use Rattle.derived_values.specs.Users.{AreSources}
use Rattle.derived_values.proofs.search.sources_of.Given as goal

abbrev pub invariant-loop-value : goal.invariant-loop-value
invariant-loop-value g l = AreSources (g.G.Givers.givers l.givers) l.value l.steps.items (map (λ row. row.items) l.users.items)
