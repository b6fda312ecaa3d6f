use Rattle.std.proofs.Common.{◌≡◌, ◌≤◌, length, take, vec_len, vec_capacity}
use Rattle.std.specs.Prelude.{map}
use Rattle.base_tables.specs.Seen.{seen_shape}
use Rattle.base_tables.specs.Users.{kind_steps}
use Rattle.base_tables.proofs.derived.step_marks.Given as goal

abbrev pub invariant-loop-shape : goal.invariant-loop-shape
invariant-loop-shape l = record {
  marks : l.marks.items ≡ map (λ shape. kind_steps (seen_shape shape)) (take l.shape-index l.shapes);
  len : vec_len l.marks ≡ l.shape-index;
  room : length l.shapes ≤ vec_capacity l.marks;
}
