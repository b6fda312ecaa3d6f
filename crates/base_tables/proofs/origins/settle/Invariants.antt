use Rattle.std.proofs.Common.{◌≡◌}
use Rattle.std.specs.Prelude.{map}
use Rattle.base_tables.specs.Kinds.{origin_in}
use Rattle.base_tables.specs.Origins.{AreFound}
use Rattle.base_tables.specs.Seen.{seen_shape}
use Rattle.base_tables.proofs.origins.settle.Given as goal

abbrev pub invariant-loop : goal.invariant-loop
invariant-loop l = record {
  found : AreFound (map seen_shape l.shapes) l.found.items;
  origin : l.origin ≡ origin_in (map seen_shape l.shapes) l.current;
}
