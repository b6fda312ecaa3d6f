use Rattle.std.proofs.Common.{◌≡◌, ◌≤◌, length, vec_len, vec_capacity}
use Rattle.std.specs.Prelude.{map}
use Rattle.std.specs.List.{range_with_len}
use Rattle.base_tables.specs.Kinds.{origin_in}
use Rattle.base_tables.specs.Seen.{seen_shape}
use Rattle.base_tables.proofs.origins.in_order.Given as goal
use Rattle.ir_ast.specs.Operands.{named}

abbrev pub invariant-loop-value : goal.invariant-loop-value
invariant-loop-value l = record {
  all : l.all.items ≡ map (λ value. origin_in (map seen_shape l.shapes) (named value)) (range_with_len 0 l.value);
  len : vec_len l.all ≡ l.value;
  room : length l.shapes ≤ vec_capacity l.all;
}
