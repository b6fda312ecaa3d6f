use Rattle.std.proofs.Common.{◌≡◌, ◌≤◌, length, take, vec_len, vec_capacity}
use Rattle.std.specs.Prelude.{map}
use Rattle.base_tables.specs.Kinds.{kind_merged, kind_negated}
use Rattle.base_tables.specs.Flags.{kind_inserted}
use Rattle.base_tables.specs.Seen.{seen_shape}
use Rattle.base_tables.proofs.tables.flags_of.Given as goal

abbrev pub invariant-loop-shape : goal.invariant-loop-shape
invariant-loop-shape l = record {
  merged : l.merged.items ≡ map (λ shape. kind_merged l.marks (seen_shape shape)) (take l.shape-index l.shapes);
  negated : l.negated.items ≡ map (λ shape. kind_negated l.marks (seen_shape shape)) (take l.shape-index l.shapes);
  either : l.any.items ≡ map (λ shape. kind_inserted l.marks (seen_shape shape)) (take l.shape-index l.shapes);
  merged_len : vec_len l.merged ≡ l.shape-index;
  merged_room : length l.shapes ≤ vec_capacity l.merged;
  negated_len : vec_len l.negated ≡ l.shape-index;
  negated_room : length l.shapes ≤ vec_capacity l.negated;
  either_len : vec_len l.any ≡ l.shape-index;
  either_room : length l.shapes ≤ vec_capacity l.any;
}
