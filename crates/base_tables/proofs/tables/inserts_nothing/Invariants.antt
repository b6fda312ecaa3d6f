use Rattle.std.proofs.Common.{◌≡◌, ◌<◌, ℕ, Some, false, slice_get}
use Rattle.std.specs.Prelude.{map}
use Rattle.base_tables.specs.Flags.{kind_inserted}
use Rattle.base_tables.specs.Kinds.{Kind}
use Rattle.base_tables.specs.Seen.{seen_shape}
use Rattle.base_tables.proofs.tables.inserts_nothing.Given as goal

abbrev pub invariant-loop-shape : goal.invariant-loop-shape
invariant-loop-shape l =
    (v : ℕ) (k : Kind) → v < l.shape-index → slice_get (map seen_shape l.shapes) v ≡ Some k → kind_inserted l.marks k ≡ false
