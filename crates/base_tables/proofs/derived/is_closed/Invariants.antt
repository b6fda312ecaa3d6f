use Rattle.std.proofs.Common.{◌≡◌, ◌<◌, ℕ, Some, true, slice_get}
use Rattle.std.specs.Prelude.{map}
use Rattle.base_tables.specs.Kinds.{Kind}
use Rattle.base_tables.specs.Seen.{seen_shape}
use Rattle.base_tables.specs.Users.{closed_at}
use Rattle.base_tables.proofs.derived.is_closed.Given as goal

abbrev pub invariant-loop-value : goal.invariant-loop-value
invariant-loop-value l =
    (v : ℕ) (k : Kind) → v < l.value → slice_get (map seen_shape l.shapes) v ≡ Some k → closed_at l.marks v k ≡ true
