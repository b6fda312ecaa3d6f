use Rattle.std.proofs.Common.{◌≡◌, ℕ, length}
use Rattle.std.specs.Prelude.{map}
use Rattle.graph_search.specs.Paths.{Marked}
use Rattle.base_tables.specs.Seen.{seen_shape}
use Rattle.base_tables.specs.Users.{DerivedIn}
use Rattle.base_tables.proofs.derived.spread.Given as goal

abbrev pub invariant-loop-value : goal.invariant-loop-value
invariant-loop-value l = record {
  whole : length l.marks.items ≡ length l.shapes;
  sound : (v : ℕ) → Marked l.marks.items v → DerivedIn (map seen_shape l.shapes) v;
}
