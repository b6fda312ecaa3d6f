use Rattle.std.proofs.Common.{◌≡◌}
use Rattle.std.specs.Prelude.{map}
use Rattle.std.specs.List.{range_with_len}
use Rattle.base_tables.specs.Kinds.{origin_in}
use Rattle.base_tables.specs.Origins.{AreFound}
use Rattle.base_tables.specs.Seen.{seen_shape}
use Rattle.base_tables.proofs.origins.in_any_order.Given as goal
use Rattle.ir_ast.specs.Operands.{named}

abbrev pub invariant-loop-value : goal.invariant-loop-value
invariant-loop-value l = record {
  found : AreFound (map seen_shape l.shapes) l.found.items;
  all : l.all.items ≡ map (λ value. origin_in (map seen_shape l.shapes) (named value)) (range_with_len 0 l.value);
}
